-- One record more: the items up to the next place.
use Rattle.std.proofs.Common.{◌≡◌, ℕ, zero, suc, ◌+◌, ◌<◌, ◌≤◌, Bool, true, false, cond, List, [], ◌∷◌, ◌++◌, length, get_or, take, Some, Ok, Option, sym, refl, ap, ◌∙◌, subst, inl, inr, append-nil, arith}
use Rattle.std.specs.List.{slice_get}
use Rattle.std.proofs.lemmas.Option.{slice_get-get_or}
use Rattle.std.proofs.lemmas.Bool.{cases_lt}
use Rattle.ir.specs.declared.kinds.Kind.{Kind}
use Rattle.ir.specs.Number.{within, number_of}
use Rattle.records.specs.Record.{judged}
use Rattle.rules.specs.Module.{Record, Item}
use Rattle.draft.specs.declared.state.BodyKind.{BodyKind}
use Rattle.draft.specs.Manner.{manner_of}
use Rattle.draft.specs.State.{State, start, stepped, state, item_of, table_in}
use Rattle.draft.specs.Admitted.{Accepted}
use Rattle.draft.proofs.Stepping.{Admits, admitted_kind, step_is}
use Rattle.arena.specs.Memory.{table_judged}
use Rattle.arena.specs.Viewing.{same_table}
use Rattle.arena.proofs.Finding.{accepted_here}
use Rattle.arena.proofs.Homes.{grown}
use Rattle.laws.proofs.KindBytes.{starts_so}
use Rattle.items.specs.declared.section.Section.{Section}
use Rattle.items.specs.declared.section.Section.TheVariants.{Numbered, Kinds}
use Rattle.items.specs.Sections.{of_kinds, selects}
use Rattle.items.specs.Between.{item_at, items_between}
use Rattle.items.proofs.Between.{state_next, split, item_is, none_between, between_append}

-- whether a record of this kind makes an item of the section
abbrev pub wanted : Section → Option BodyKind → Kind → Bool
wanted (Numbered t) o k = same_table t (table_in o (manner_of k).table)
wanted (Kinds low high) o k = within low high (number_of k)

pub wanted_is : (sec : Section) (s : State) (r : Record) (k : Kind) → judged r ≡ Ok k → selects sec s r ≡ wanted sec s.opened k
wanted_is (Numbered t) s r k e = ap (λ j. same_table t (table_judged s j)) e
wanted_is (Kinds low high) s r k e = ap (of_kinds low high) (starts_so k r e).1

-- the record at a place, and what it makes of the state before it
pub record Next (m : List Record) (place : ℕ) : Type 0 where
  pub bytes : Record
  pub kind : Kind
  pub has : slice_get m place ≡ Some bytes
  pub admits : Admits (state (take place m)) bytes kind
  pub after : state (take (place + 1) m) ≡ stepped kind bytes (state (take place m))

pub next_at : (m : List Record) → Accepted start m → (p : ℕ) → p < length m → Next m p
next_at m a p h =
    let r = get_or m p [] in
    let e = slice_get-get_or m p [] h in
    let k = admitted_kind (state (take p m)) r (accepted_here m p h a) in
    record { bytes = r; kind = k.0; has = e; admits = k.1; after = state_next m p r e ∙ step_is (state (take p m)) r k.0 k.1.kind_is }

pushed : (b c : Bool) (xs ys rest : List Item) (i j : Item) → ys ≡ xs ++ cond b (i ∷ rest) rest → rest ≡ [] → b ≡ c → j ≡ i → ys ≡ grown c xs j
pushed b true xs ys rest i j e n t u = e ∙ ap (λ x. xs ++ cond x (i ∷ rest) rest) t ∙ ap (λ l. xs ++ i ∷ l) n ∙ ap (λ x. xs ++ x ∷ []) (sym u)
pushed b false xs ys rest i j e n t u = e ∙ ap (λ x. xs ++ cond x (i ∷ rest) rest) t ∙ ap (λ l. xs ++ l) n ∙ append-nil xs

module _ (m : List Record) (a : Accepted start m) (p : ℕ) (h : p < length m) (n : Next m p) where
  -- the items up to the next place: one more, if the record makes one
  pub more : (sec : Section) (from : ℕ) → from ≤ p → items_between sec m from (p + 1) ≡ grown (wanted sec (state (take p m)).opened n.kind) (items_between sec m from p) (item_of (state (take p m)) n.bytes)
  more sec from l =
      let s = state (take p m) in
      let parts = between_append sec m a from p (p + 1) l (omega arith) (omega arith) in
      let this = split sec m a p (p + 1) n.bytes n.has (omega arith) (omega arith) in
      pushed (selects sec s n.bytes) (wanted sec s.opened n.kind) (items_between sec m from p) (items_between sec m from (p + 1)) (items_between sec m (p + 1) (p + 1)) (item_at m p n.bytes) (item_of s n.bytes)
      (parts ∙ ap (λ l. items_between sec m from p ++ l) this)
      (none_between sec m (p + 1) (p + 1) (omega arith))
      (wanted_is sec s n.bytes n.kind n.admits.kind_is)
      (item_is sec m a p (p + 1) n.bytes n.has (omega arith) (omega arith))

-- an item of those between two places: it stands there, and is made by the record at its place
abbrev pub Between : List Record → ℕ → ℕ → Item → Type 0
Between m from to i = (from ≤ i.place) × (i.place < to) × (slice_get m i.place ≡ Some i.bytes) × (i ≡ item_at m i.place i.bytes)

module _ (sec : Section) (m : List Record) (a : Accepted start m) (to : ℕ) (t : to ≤ length m) where
  on : (x : ℕ) (i : Item) → Between m (x + 1) to i → Between m x to i
  on x i w = (let l = w.0 in omega arith, w.1, w.2, w.3)

  found : (b : Bool) (x n : ℕ) (r : Record) (rest : List Item) (i : Item) → slice_get m x ≡ Some r → x < to → ((k : ℕ) → slice_get rest k ≡ Some i → Between m (x + 1) to i) → slice_get (cond b (item_at m x r ∷ rest) rest) n ≡ Some i → Between m x to i
  found true x zero r rest i e l w g =
      let same : item_at m x r ≡ i = cc in
      subst (Between m x to) same (omega arith, l, e, refl)
  found true x (suc n) r rest i e l w g = on x i (w n g)
  found false x n r rest i e l w g = on x i (w n g)

  between_from : (d x n : ℕ) (i : Item) → to ≤ x + d → slice_get (items_between sec m x to) n ≡ Some i → Between m x to i
  between_from zero x n i l g =
      let none : slice_get {X = Item} [] n ≡ Some i = sym (ap (λ l. slice_get l n) (none_between sec m x to (omega arith))) ∙ g in
      absurd cc
  between_from (suc d) x n i l g =
      elim (cases_lt x to) [
        | inl b ↦
            let r = get_or m x [] in
            let e = slice_get-get_or m x [] (omega arith) in
            found (selects sec (state (take x m)) r) x n r (items_between sec m (x + 1) to) i e b
            (λ k. between_from d (x + 1) k i (omega arith))
            (sym (ap (λ l. slice_get l n) (split sec m a x to r e b t)) ∙ g)
        | inr b ↦
            let none : slice_get {X = Item} [] n ≡ Some i = sym (ap (λ l. slice_get l n) (none_between sec m x to b)) ∙ g in
            absurd cc
      ]

pub between_at : (sec : Section) (m : List Record) (from to n : ℕ) → Accepted start m → to ≤ length m → (i : Item) → slice_get (items_between sec m from to) n ≡ Some i → Between m from to i
between_at sec m from to n a t i g = between_from sec m a to t to from n i (omega arith) g
