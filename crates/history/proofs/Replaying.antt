-- One call more of a list of calls.
use Rattle.std.proofs.Common.{◌≡◌, ℕ, suc, ◌+◌, ◌<◌, List, [], ◌∷◌, ◌++◌, length, get_or, take, drop, set, Some, Option, sym, refl, ap, ◌∙◌, subst, append_assoc, arith}
use Rattle.std.proofs.lemmas.List.{take_more, drop_more, set_at, length-take-le}
use Rattle.std.specs.List.{slice_get}
use Rattle.ir.specs.declared.handle.Handle.TheVariants as handle
use Rattle.ir.specs.Handle.{index_of, table_of as handle_table}
use Rattle.node.specs.Nodes.{Node}
use Rattle.rules.specs.Module.{Record}
use Rattle.draft.specs.State.{state}
use Rattle.runs.specs.Homes.{home_of}
use Rattle.runs.specs.Runs.{put_kept, run, Numbered, Names, NumbersStay, StillNamed, OneNumber}
use Rattle.history.specs.declared.calls.Call.{Call}
use Rattle.history.specs.declared.calls.Call.TheVariants as call
use Rattle.history.specs.declared.calls.Outcome.{Outcome}
use Rattle.history.specs.Calls.{puts_of, outcome_of, kept_by, outcomes, EachVerdict, EachSeal}

module _ (room places : ℕ) where
  run_append : (m xs ys : List Record) → run room places m (xs ++ ys) ≡ run room places (run room places m xs) ys
  run_append m [] ys = refl
  run_append m (x ∷ xs) ys = run_append (put_kept room places m x) xs ys

  pub still_named : NumbersStay room places → (puts final : List Record) → final ≡ run room places [] puts → StillNamed room places puts (state final)
  still_named law puts final final_is earlier r later k h parts numbered =
      let last : state final ≡ state (run room places (put_kept room places (run room places [] earlier) r) later) = ap state (final_is ∙ ap (run room places []) parts ∙ run_append [] earlier (r ∷ later)) in
      subst (λ s. Names (home_of (state (run room places [] earlier)) k) (handle_table h) s (index_of h) r (state (run room places [] earlier)).waiting) (sym last) (law.stays earlier r k h later numbered)

  pub one_number_in : NumbersStay room places → (puts : List Record) → OneNumber room places puts
  one_number_in law puts a r b q c k l n o parts first second =
      let there : run room places [] (a ++ (r ∷ b)) ≡ run room places (put_kept room places (run room places [] a) r) b = run_append [] a (r ∷ b) in
      let second' : Numbered room places (run room places (put_kept room places (run room places [] a) r) b) q l (handle.Type o) = subst (λ m. Numbered room places m q l (handle.Type o)) there second in
      subst (λ m. (n ≡ o → (r ≡ q) × ((state (run room places [] a)).waiting ≡ (state m).waiting)) × ((r ≡ q) × ((state (run room places [] a)).waiting ≡ (state m).waiting) → n ≡ o)) (sym there) (law.one_number a r k n b q l o first second')

module _ {R T : Type 0} where
  puts_append : (xs ys : List (Call R T)) → puts_of (xs ++ ys) ≡ puts_of xs ++ puts_of ys
  puts_append [] ys = refl
  puts_append (call.Put r ∷ xs) ys = ap (λ rs. r.now ∷ rs) (puts_append xs ys)
  puts_append (call.Check ∷ xs) ys = puts_append xs ys
  puts_append (call.Seal ∷ xs) ys = puts_append xs ys
  puts_append (call.Walk w ∷ xs) ys = puts_append xs ys

  -- the records that are kept after a call, and then after others
  pub kept_then : (room places : ℕ) (m : List Record) (c : Call R T) (cs : List (Call R T)) → run room places m (puts_of (c ∷ cs)) ≡ run room places (kept_by room places m c) (puts_of cs)
  kept_then room places m (call.Put r) cs = refl
  kept_then room places m call.Check cs = refl
  kept_then room places m call.Seal cs = refl
  kept_then room places m (call.Walk w) cs = refl

  module _ (own : T → List Node) (room places count : ℕ) where
    outcomes_push : (m : List Record) (xs : List (Call R T)) (c : Call R T) → outcomes own room places count m (xs ++ c ∷ []) ≡ outcomes own room places count m xs ++ Some (outcome_of own room places count (run room places m (puts_of xs)) c) ∷ []
    outcomes_push m [] c = refl
    outcomes_push m (x ∷ xs) c =
        ap (λ l. Some (outcome_of own room places count m x) ∷ l)
        (outcomes_push (kept_by room places m x) xs c ∙ ap (λ n. outcomes own room places count (kept_by room places m x) xs ++ Some (outcome_of own room places count n c) ∷ []) (sym (kept_then room places m x xs)))

    length_outcomes : (m : List Record) (xs : List (Call R T)) → length (outcomes own room places count m xs) ≡ length xs
    length_outcomes m [] = refl
    length_outcomes m (x ∷ xs) = ap suc (length_outcomes (kept_by room places m x) xs)

    -- what a call answered at its place in a list
    answer_there : (m : List Record) (earlier : List (Call R T)) (c : Call R T) (later : List (Call R T)) (rest : List (Option Outcome)) → slice_get (outcomes own room places count m (earlier ++ (c ∷ later)) ++ rest) (length earlier) ≡ Some (Some (outcome_of own room places count (run room places m (puts_of earlier)) c))
    answer_there m [] c later rest = refl
    answer_there m (x ∷ earlier) c later rest =
        answer_there (kept_by room places m x) earlier c later rest ∙ ap (λ n. Some (Some (outcome_of own room places count n c))) (sym (kept_then room places m x earlier))

    module _ (calls : List (Call R T)) (rest answers : List (Option Outcome)) (is : answers ≡ outcomes own room places count [] calls ++ rest) where
      pub each_answer : (c : Call R T) (earlier later : List (Call R T)) → calls ≡ earlier ++ (c ∷ later) → slice_get answers (length earlier) ≡ Some (Some (outcome_of own room places count (run room places [] (puts_of earlier)) c))
      each_answer c earlier later parts =
          ap (λ os. slice_get os (length earlier)) (is ∙ ap (λ cs. outcomes own room places count [] cs ++ rest) parts) ∙ answer_there [] earlier c later rest

      pub each_verdict : EachVerdict room places calls answers
      each_verdict earlier later parts = each_answer call.Check earlier later parts

      pub each_seal : EachSeal room places calls answers
      each_seal earlier later parts = each_answer call.Seal earlier later parts

  -- the kept records after one call more; the sizes of the memory stay
  module _ (room places : ℕ) (calls : List (Call R T)) (i : ℕ) (d : Call R T) (l : i < length calls) (room' places' : ℕ) (e : room' ≡ room) (f : places' ≡ places) (m : List Record) (m_is : m ≡ run room places [] (puts_of (take i calls))) where
    pub run_more : (m' : List Record) → m' ≡ kept_by room' places' m (get_or calls i d) → m' ≡ run room places [] (puts_of (take (i + 1) calls))
    run_more m' m'_is =
        let c = get_or calls i d in
        let puts = puts_of (take i calls) in
        m'_is ∙ ap (λ n. kept_by n places' m c) e ∙ ap (λ n. kept_by room n m c) f ∙ ap (λ x. kept_by room places x c) m_is
        ∙ sym (kept_then room places (run room places [] puts) c [])
        ∙ sym (ap (λ cs. run room places [] (puts_of cs)) (take_more calls i d l) ∙ ap (run room places []) (puts_append (take i calls) (c ∷ [])) ∙ run_append room places [] puts (puts_of (c ∷ [])))

    -- and the answers
    module _ (own : T → List Node) (count count' : ℕ) (g : count' ≡ count) where
      pub answers_more : (first now : List (Option Outcome)) → now ≡ outcomes own room places count [] (take i calls) ++ drop i first → i < length first → (z x : Option Outcome)
          → x ≡ Some (outcome_of own room' places' count' m (get_or calls i d))
          → set now i x ≡ outcomes own room places count [] (take (i + 1) calls) ++ drop (i + 1) first
      answers_more first now now_is l' z x x_is =
          let made = take i calls in
          let c = get_or calls i d in
          let there = Some (outcome_of own room places count (run room places [] (puts_of made)) c) in
          let long : length (outcomes own room places count [] made) ≡ i = length_outcomes own room places count [] made ∙ length-take-le i calls (omega arith) in
          let answer : x ≡ there = x_is ∙ ap (λ n. Some (outcome_of own n places' count' m c)) e ∙ ap (λ n. Some (outcome_of own room n count' m c)) f ∙ ap (λ n. Some (outcome_of own room places n m c)) g ∙ ap (λ y. Some (outcome_of own room places count y c)) m_is in
          ap (λ a. set a i x) (now_is ∙ ap (λ rest. outcomes own room places count [] made ++ rest) (drop_more first i z l'))
          ∙ set_at (outcomes own room places count [] made) (get_or first i z) (drop (i + 1) first) x i long
          ∙ ap (λ y. outcomes own room places count [] made ++ (y ∷ drop (i + 1) first)) answer
          ∙ sym (append_assoc (outcomes own room places count [] made) (there ∷ []) (drop (i + 1) first))
          ∙ ap (λ os. os ++ drop (i + 1) first) (sym (ap (outcomes own room places count []) (take_more calls i d l) ∙ outcomes_push own room places count [] made c))
