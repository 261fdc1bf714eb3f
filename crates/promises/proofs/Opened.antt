-- Which body is open before a record, by places.
use Rattle.std.proofs.Common.{◌≡◌, ℕ, zero, suc, ◌+◌, ◌-◌, ◌<◌, ◌≤◌, ◌⊎◌, true, false, not, List, [], ◌∷◌, ◌++◌, length, get_or, take, drop, slice_get, Some, None, Ok, Option, Result, sym, refl, ap, ◌∙◌, subst, inl, inr, arith, length-append, length-drop, get_or-drop}
use Rattle.std.specs.List.{AllByRecursion, prefix_len}
use Rattle.std.proofs.lemmas.Bool.{cases_lt, not-true, not-false}
use Rattle.std.proofs.lemmas.List.{take-take, take-append-le, take_all, length-take-le}
use Rattle.std.proofs.lemmas.List.Sums.{prefix_len_passes, prefix_len_stops}
use Rattle.std.proofs.lemmas.Option.{same_Some, slice_get-get_or, get_or_from_slice_get}
use Rattle.ir.specs.declared.kinds.Kind.{Kind}
use Rattle.ir.specs.declared.kinds.Kind.TheVariants as kind
use Rattle.ir.specs.declared.kinds.TypeInner.TheVariants as type
use Rattle.ir.specs.declared.kinds.Expression.TheVariants as expression
use Rattle.ir.specs.declared.kinds.Statement.TheVariants as statement
use Rattle.records.specs.declared.judge.Flaw.{Flaw}
use Rattle.records.specs.Record.{judged}
use Rattle.rules.specs.Module.{Record, Item, Body}
use Rattle.draft.specs.declared.state.BodyKind.{BodyKind}
use Rattle.draft.specs.declared.state.BodyKind.TheVariants as body_kind
use Rattle.draft.specs.declared.state.Pieces.{Pieces}
use Rattle.draft.specs.declared.state.SlotTable.TheVariants as table
use Rattle.draft.specs.Manner.{manner_of}
use Rattle.draft.specs.State.{State, start, step, stepped, state, item_of, waiting_after, on_side, open_after, body_after}
use Rattle.draft.specs.Admitted.{Accepted}
use Rattle.draft.proofs.Stepping.{Admits, step_is, state_push, throughout}
use Rattle.items.specs.declared.section.Section.{Section}
use Rattle.items.specs.declared.section.Section.TheVariants.{Numbered}
use Rattle.items.specs.Sections.{selects}
use Rattle.items.specs.Between.{item_at, items_between}
use Rattle.items.specs.Whole.{ends, ending_from}
use Rattle.items.proofs.Between.{none_between, item_is, split, front}
use Rattle.items.proofs.Places.{next_at, between_at}
use Rattle.items.proofs.ByKind.{finishes}
use Rattle.items.proofs.Whole.{ends_is}
use Rattle.sealing.proofs.Kinded.{one_more_if}
use Rattle.promises.proofs.Made.{Made}

-- the first that ends

only_end : (k : Kind) → finishes k ≡ true → k ≡ kind.EndFunction
only_end kind.EndFunction e = refl
only_end (kind.Type type.Scalar) e = absurd cc
only_end (kind.Expression expression.Literal) e = absurd cc
only_end (kind.Statement statement.Emit) e = absurd cc
only_end k e = absurd cc

pub ends_kind : (r : Record) (k : Kind) → judged r ≡ Ok k → ends r ≡ true → judged r ≡ Ok kind.EndFunction
ends_kind r k j e = j ∙ ap Ok (only_end k (sym (ends_is r k j) ∙ e))

module _ (m : List Record) (from : ℕ) where
  runs_on : (p : ℕ) → from ≤ p → p < ending_from m from → ends (get_or m p []) ≡ false
  runs_on p l u =
      let at : from + (p - from) ≡ p = omega arith in
      let e = prefix_len_passes (λ r. not (ends r)) (drop from m) (p - from) [] (omega arith) in
      let g = get_or-drop from m (p - from) [] ∙ ap (λ q. get_or m q []) at in
      not-true (ends (get_or m p [])) (sym (ap (λ r. not (ends r)) g) ∙ e)

  pub ends_there : (p : ℕ) → p ≡ ending_from m from → p < length m → ends (get_or m p []) ≡ true
  ends_there p is l =
      let n = length-drop from m in
      let e = prefix_len_stops (λ r. not (ends r)) (drop from m) [] (omega arith) in
      let g = get_or-drop from m (prefix_len (λ r. not (ends r)) (drop from m)) [] ∙ ap (λ q. get_or m q []) (sym is) in
      not-false (ends (get_or m p [])) (sym (ap (λ r. not (ends r)) g) ∙ e)

-- in an open body, a record that does not end it leaves it open
stays_open : (k : Kind) (x : BodyKind) (i : Item) (b : Body) → on_side (Some x) (manner_of k).side ≡ true → finishes k ≡ false → (open_after (manner_of k).motion (Some x) ≡ Some x) × ((body_after k (Some x) i b).opener ≡ b.opener)
stays_open (kind.Type type.Scalar) x i b s f = absurd cc
stays_open (kind.Expression expression.Literal) x i b s f = (refl, refl)
stays_open (kind.Statement statement.Emit) x i b s f = (refl, refl)
stays_open kind.Function x i b s f = absurd cc
stays_open kind.EntryPoint x i b s f = absurd cc
stays_open kind.EndFunction x i b s f = absurd cc
stays_open k x i b s f = (refl, refl)

-- a record that joins others leaves the body as it is
joins_only : (k : Kind) (o : Option BodyKind) (i : Item) (b : Body) → ((manner_of k).joins ≡ None) ⊎ ((open_after (manner_of k).motion o ≡ o) × (body_after k o i b ≡ b))
joins_only kind.Member o i b = inr (refl, refl)
joins_only kind.Operand o i b = inr (refl, refl)
joins_only k o i b = inl refl

-- while records wait, the body that is open stays
record SinceWaiting (m : List Record) (s : State) : Type 0 where
  is : s ≡ state m
  few : length s.waiting ≤ length m
  same : (q : ℕ) → length m ≤ q + length s.waiting → q ≤ length m → ((state (take q m)).opened ≡ s.opened) × ((state (take q m)).body.opener ≡ s.body.opener)

whole_same : (m : List Record) (s : State) (q : ℕ) → s ≡ state m → length m ≤ q → ((state (take q m)).opened ≡ s.opened) × ((state (take q m)).body.opener ≡ s.body.opener)
whole_same m s q e l = let t = ap state (take_all q m l) ∙ sym e in (ap (λ u. u.opened) t, ap (λ u. u.body.opener) t)

fewer : (s : State) (k : Kind) (r : Record) → length (waiting_after (manner_of k).joins s.waiting r) ≤ length s.waiting + 1
fewer s k r = go (manner_of k).joins
  where
    go : (j : Option Pieces) → length (waiting_after j s.waiting r) ≤ length s.waiting + 1
    go None = omega arith
    go (Some p) = let l = length-append s.waiting (r ∷ []) in omega arith

since_next : (m : List Record) (s : State) (r : Record) (k : Kind) → Admits s r k → SinceWaiting m s → SinceWaiting (m ++ r ∷ []) (stepped k r s)
since_next m s r k a x =
    let is : stepped k r s ≡ state (m ++ r ∷ []) = sym (step_is s r k a.kind_is) ∙ ap (λ u. step u r) x.is ∙ sym (state_push m r) in
    let size = length-append m (r ∷ []) in
    record {
      is = is;
      few = let f = fewer s k r in let y = x.few in omega arith;
      same = λ q l u.
          elim (cases_lt q (length m + 1)) [
            | inl b ↦ within is q l (omega arith)
            | inr b ↦ whole_same (m ++ r ∷ []) (stepped k r s) q is (omega arith)
          ];
    }
  where
    within : stepped k r s ≡ state (m ++ r ∷ []) → (q : ℕ) → length (m ++ r ∷ []) ≤ q + length (waiting_after (manner_of k).joins s.waiting r) → q ≤ length m → ((state (take q (m ++ r ∷ []))).opened ≡ (stepped k r s).opened) × ((state (take q (m ++ r ∷ []))).body.opener ≡ (stepped k r s).body.opener)
    within is q l b =
        let size = length-append m (r ∷ []) in
        let f = fewer s k r in
        elim (joins_only k s.opened (item_of s r) s.body) [
          | inl j ↦ let none = ap (λ o. length (waiting_after o s.waiting r)) j in absurd (omega arith)
          | inr j ↦
              let old = x.same q (omega arith) b in
              let t = ap state (take-append-le q m (r ∷ []) b) in
              (ap (λ u. u.opened) t ∙ old.0 ∙ sym j.0, ap (λ u. u.body.opener) t ∙ old.1 ∙ ap (λ y. y.opener) (sym j.1))
        ]

since_start : SinceWaiting [] start
unfolding state
since_start = record { is = refl; few = omega arith; same = λ q l u. let z : q ≡ 0 = omega arith in subst (λ n. ((state (take n [])).opened ≡ start.opened) × ((state (take n [])).body.opener ≡ start.body.opener)) (sym z) (refl, refl) }

-- an item stands at its place
abbrev pub Placed : List Record → Item → Type 0
Placed m i = (i.place < length m) × (slice_get m i.place ≡ Some i.bytes) × (i ≡ item_at m i.place i.bytes)

-- a body is open before a place, and this item opened it
pub record OpenAt (m : List Record) (p : ℕ) (x : BodyKind) (i : Item) : Type 0 where
  pub opened : (state (take p m)).opened ≡ Some x
  pub opener : (state (take p m)).body.opener ≡ i

module _ (m : List Record) (a : Accepted start m) where
  abbrev before : ℕ → State
  before p = state (take p m)

  -- the items of a section, each at its place
  pub placed_between : (sec : Section) (from to : ℕ) → to ≤ length m → AllByRecursion (λ i. (from ≤ i.place) × (i.place < to) × Placed m i) (items_between sec m from to)
  placed_between sec from to t = each (items_between sec m from to) (λ n i g. let b = between_at sec m from to n a t i g in (b.0, b.1, (let l = b.1 in omega arith, b.2, b.3)))
    where
      each : (xs : List Item) → ((n : ℕ) (i : Item) → slice_get xs n ≡ Some i → (from ≤ i.place) × (i.place < to) × ((i.place < length m) × (slice_get m i.place ≡ Some i.bytes) × (i ≡ item_at m i.place i.bytes))) → AllByRecursion (λ i. (from ≤ i.place) × (i.place < to) × Placed m i) xs
      each [] f = tt
      each (x ∷ xs) f = (f 0 x refl, each xs (λ n. f (suc n)))

  -- what a record at a place does
  pub does : (i : Item) (k : Kind) → Placed m i → judged i.bytes ≡ Ok k → Admits (before i.place) i.bytes k × (before (i.place + 1) ≡ stepped k i.bytes (before i.place))
  does i k w j =
      let n = next_at m a i.place w.0 in
      let bytes : n.bytes ≡ i.bytes = same_Some n.bytes i.bytes (sym n.has ∙ w.1) in
      let ok : ◌≡◌ {A = Result Kind Flaw} (Ok n.kind) (Ok k) = sym n.admits.kind_is ∙ ap judged bytes ∙ j in
      let kinds : n.kind ≡ k = cc in (
        subst (λ z. Admits (before i.place) i.bytes z) kinds (subst (λ r. Admits (before i.place) r n.kind) bytes n.admits),
        n.after ∙ ap (λ r. stepped n.kind r (before i.place)) bytes ∙ ap (λ z. stepped z i.bytes (before i.place)) kinds,
      )

  pub opener_is : (i : Item) → Placed m i → item_of (before i.place) i.bytes ≡ i
  opener_is i w = item_is (Numbered table.Types) m a i.place (i.place + 1) i.bytes w.1 (omega arith) (let l = w.0 in omega arith) ∙ sym w.2

  open_next : (p : ℕ) (x : BodyKind) (i : Item) → p < length m → ends (get_or m p []) ≡ false → OpenAt m p x i → OpenAt m (p + 1) x i
  open_next p x i l e o =
      let n = next_at m a p l in
      let here = get_or_from_slice_get m p n.bytes [] n.has in
      let f : finishes n.kind ≡ false = sym (ends_is n.bytes n.kind n.admits.kind_is) ∙ ap ends (sym here) ∙ e in
      let side = subst (λ y. on_side y (manner_of n.kind).side ≡ true) o.opened n.admits.on_its_side in
      let k = stays_open n.kind x (item_of (before p) n.bytes) (before p).body side f in
      record {
        opened = ap (λ s. s.opened) n.after ∙ ap (open_after (manner_of n.kind).motion) o.opened ∙ k.0;
        opener = ap (λ s. s.body.opener) n.after ∙ ap (λ y. (body_after n.kind y (item_of (before p) n.bytes) (before p).body).opener) o.opened ∙ k.1 ∙ o.opener;
      }

  open_on : (d q : ℕ) (x : BodyKind) (i : Item) → q + d ≤ length m → q + d ≤ ending_from m q → OpenAt m q x i → OpenAt m (q + d) x i
  open_on zero q x i l u o = let same : q ≡ q + 0 = omega arith in subst (λ p. OpenAt m p x i) same o
  open_on (suc d) q x i l u o =
      let same : q + d + 1 ≡ q + suc d = omega arith in
      subst (λ p. OpenAt m p x i) same
      (open_next (q + d) x i (omega arith) (runs_on m q (q + d) (omega arith) (omega arith)) (open_on d q x i (omega arith) (omega arith) o))

  -- the body that an item opens is open up to the record that ends it
  pub open_in : (x : BodyKind) (i : Item) (p : ℕ) → OpenAt m (i.place + 1) x i → i.place < p → p ≤ ending_from m (suc i.place) → p ≤ length m → OpenAt m p x i
  open_in x i p o l u h =
      let next : i.place + 1 ≡ suc i.place = omega arith in
      let at : suc i.place + (p - suc i.place) ≡ p = omega arith in
      subst (λ q. OpenAt m q x i) at (open_on (p - suc i.place) (suc i.place) x i (omega arith) (omega arith) (subst (λ q. OpenAt m q x i) next o))

  pub function_opens : (i : Item) → Placed m i → Made kind.Function i → OpenAt m (i.place + 1) body_kind.Function i
  function_opens i w h =
      let d = does i kind.Function w h.kind_is in
      record { opened = ap (λ s. s.opened) d.1; opener = ap (λ s. s.body.opener) d.1 ∙ opener_is i w }

  pub entry_opens : (i : Item) → Placed m i → Made kind.EntryPoint i → OpenAt m (i.place + 1) body_kind.EntryPoint i
  entry_opens i w h =
      let d = does i kind.EntryPoint w h.kind_is in
      record { opened = ap (λ s. s.opened) d.1; opener = ap (λ s. s.body.opener) d.1 ∙ opener_is i w }

  -- what an item took came in the same body
  pub since : (i : Item) (q : ℕ) → Placed m i → i.place ≤ q + length i.taken → q ≤ i.place → ((before q).opened ≡ (before i.place).opened) × ((before q).body.opener ≡ (before i.place).body.opener)
  since i q w l u =
      let f = take i.place m in
      let t = throughout SinceWaiting since_next f (front m i.place a) since_start in
      let size : length f ≡ i.place = length-take-le i.place m (let z = w.0 in omega arith) in
      let waits : length i.taken ≡ length (before i.place).waiting = ap (λ j. length j.taken) w.2 in
      let r = t.same q (omega arith) (omega arith) in
      let e = ap state (take-take q i.place m u) in
      (ap (λ s. s.opened) (sym e) ∙ r.0, ap (λ s. s.body.opener) (sym e) ∙ r.1)

  -- it took no more than came before it
  pub few_taken : (i : Item) → Placed m i → length i.taken ≤ i.place
  few_taken i w =
      let f = take i.place m in
      let t = throughout SinceWaiting since_next f (front m i.place a) since_start in
      let size : length f ≡ i.place = length-take-le i.place m (let z = w.0 in omega arith) in
      let waits : length i.taken ≡ length (before i.place).waiting = ap (λ j. length j.taken) w.2 in
      let l = t.few in
      omega arith

  -- the records that make the items of a section
  pub selected_between : (sec : Section) (d x to : ℕ) → to ≤ x + d → to ≤ length m → AllByRecursion (λ i. selects sec (before i.place) i.bytes ≡ true) (items_between sec m x to)
  selected_between sec zero x to l t = subst (AllByRecursion (λ i. selects sec (before i.place) i.bytes ≡ true)) (sym (none_between sec m x to (omega arith))) tt
  selected_between sec (suc d) x to l t =
      elim (cases_lt x to) [
        | inl b ↦
            let r = get_or m x [] in
            let e = slice_get-get_or m x [] (omega arith) in
            subst (AllByRecursion (λ i. selects sec (before i.place) i.bytes ≡ true)) (sym (split sec m a x to r e b t))
            (one_more_if (λ i. selects sec (before i.place) i.bytes ≡ true) (selects sec (before x) r) (item_at m x r) (items_between sec m (x + 1) to) (λ s. s) (selected_between sec d (x + 1) to (omega arith) t))
        | inr b ↦ subst (AllByRecursion (λ i. selects sec (before i.place) i.bytes ≡ true)) (sym (none_between sec m x to b)) tt
      ]
