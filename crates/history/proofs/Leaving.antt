-- The values that the calls of a list leave, one after the other.
use Rattle.std.proofs.Common.{◌≡◌, ℕ, zero, suc, ◌+◌, ◌<◌, List, [], ◌∷◌, ◌++◌, length, get_or, take, Option, sym, refl, subst}
use Rattle.std.proofs.lemmas.List.{take_more}
use Rattle.node.specs.Nodes.{Node}
use Rattle.rules.specs.Module.{Record}
use Rattle.runs.specs.Runs.{run}
use Rattle.walk.specs.Steps.{Steps}
use Rattle.history.specs.declared.calls.Call.{Call}
use Rattle.history.specs.declared.calls.Call.TheVariants as call
use Rattle.history.specs.declared.calls.Outcome.{Outcome}
use Rattle.history.specs.Calls.{puts_of, kept_by, outcomes, LeftBy, EachWalk}
use Rattle.history.proofs.Replaying.{kept_then, each_answer}

module _ {R T W V : Type 0} (own : T → List Node) (steps : R → Steps W V) (room places count : ℕ) where
  -- each call makes what it must of what the one before left
  abbrev pub Left : List Record → List (Call R T) → List V → List V → Type 0
  Left m [] before after = after ≡ before
  Left m (c ∷ cs) before after = (mid : List V) × LeftBy own steps count m c before mid × Left (kept_by room places m c) cs mid after

  left_push : (m : List Record) (cs : List (Call R T)) (c : Call R T) (before mid after : List V) → Left m cs before mid → LeftBy own steps count (run room places m (puts_of cs)) c mid after → Left m (cs ++ c ∷ []) before after
  left_push m [] c before mid after same by = (after, subst (λ b. LeftBy own steps count m c b after) same by, refl)
  left_push m (d ∷ cs) c before mid after t by = (t.0, t.1, left_push (kept_by room places m d) cs c t.0 mid after t.2 (subst (λ n. LeftBy own steps count n c mid after) (kept_then room places m d cs) by))

  -- one call more
  pub left_more : (calls : List (Call R T)) (i : ℕ) (d : Call R T) → i < length calls → (m : List Record) → m ≡ run room places [] (puts_of (take i calls)) → (count' : ℕ) → count' ≡ count → (before mid after : List V) → Left [] (take i calls) before mid
      → LeftBy own steps count' m (get_or calls i d) mid after → Left [] (take (i + 1) calls) before after
  left_more calls i d l m m_is count' e before mid after t by =
      let c = get_or calls i d in
      let by' = subst (λ n. LeftBy own steps count n c mid after) m_is (subst (λ n. LeftBy own steps n m c mid after) e by) in
      subst (λ cs. Left [] cs before after) (sym (take_more calls i d l)) (left_push [] (take i calls) c before mid after t by')

  -- the values after so many calls
  abbrev left_at : (m : List Record) (cs : List (Call R T)) (before after : List V) → Left m cs before after → ℕ → List V
  left_at m [] before after t n = before
  left_at m (c ∷ cs) before after t zero = before
  left_at m (c ∷ cs) before after t (suc n) = left_at (kept_by room places m c) cs t.0 after t.2 n

  left_first : (m : List Record) (cs : List (Call R T)) (before after : List V) (t : Left m cs before after) → left_at m cs before after t 0 ≡ before
  left_first m [] before after t = refl
  left_first m (c ∷ cs) before after t = refl

  left_last : (m : List Record) (cs : List (Call R T)) (before after : List V) (t : Left m cs before after) → left_at m cs before after t (length cs) ≡ after
  left_last m [] before after t = sym t
  left_last m (c ∷ cs) before after t = left_last (kept_by room places m c) cs t.0 after t.2

  left_there : (m : List Record) (earlier : List (Call R T)) (c : Call R T) (later : List (Call R T)) (before after : List V) (t : Left m (earlier ++ (c ∷ later)) before after)
      → LeftBy own steps count (run room places m (puts_of earlier)) c (left_at m (earlier ++ (c ∷ later)) before after t (length earlier)) (left_at m (earlier ++ (c ∷ later)) before after t (suc (length earlier)))
  left_there m [] c later before after t = subst (LeftBy own steps count m c before) (sym (left_first (kept_by room places m c) later t.0 after t.2)) t.1
  left_there m (d ∷ earlier) c later before after t =
      let next = kept_by room places m d in
      let here = left_at next (earlier ++ (c ∷ later)) t.0 after t.2 in
      subst (λ n. LeftBy own steps count n c (here (length earlier)) (here (suc (length earlier)))) (sym (kept_then room places m d earlier)) (left_there next earlier c later t.0 after t.2)

  left_each : (calls earlier : List (Call R T)) (c : Call R T) (later : List (Call R T)) → earlier ++ (c ∷ later) ≡ calls → (before after : List V) (t : Left [] calls before after)
      → LeftBy own steps count (run room places [] (puts_of earlier)) c (left_at [] calls before after t (length earlier)) (left_at [] calls before after t (suc (length earlier)))
  left_each calls earlier c later parts before after =
      subst (λ cs. (t : Left [] cs before after) → LeftBy own steps count (run room places [] (puts_of earlier)) c (left_at [] cs before after t (length earlier)) (left_at [] cs before after t (suc (length earlier)))) parts (left_there [] earlier c later before after)

pub each_walk : {R T W V : Type 0} (own : T → List Node) (steps : R → Steps W V) (room places : ℕ) (calls : List (Call R T)) (rest answers : List (Option Outcome)) (before after : List V)
    → answers ≡ outcomes own room places (length before) [] calls ++ rest → Left own steps room places (length before) [] calls before after → EachWalk own steps room places calls answers before after
each_walk own steps room places calls rest answers before after is t = record {
  left = left_at own steps room places (length before) [] calls before after t;
  begins = left_first own steps room places (length before) [] calls before after t;
  ends = left_last own steps room places (length before) [] calls before after t;
  answered = λ earlier later w parts. each_answer own room places (length before) calls rest answers is (call.Walk w) earlier later parts;
  leaves = λ earlier later c parts. left_each own steps room places (length before) calls earlier c later (sym parts) before after t;
}
