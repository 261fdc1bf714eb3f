-- The items of a table have no more bytes in all than the kept records.
use Rattle.std.proofs.Common.{◌≡◌, ℕ, ◌+◌, ◌-◌, ◌≤◌, Bool, true, false, cond, List, [], ◌∷◌, ◌++◌, length, take, drop, fold, sum_by, sym, refl, ap, ◌∙◌, subst, inl, inr, arith, length-append, take-append-drop}
use Rattle.std.specs.List.{flat_map}
use Rattle.std.proofs.lemmas.List.{drop-take}
use Rattle.std.proofs.lemmas.List.Sums.{sum_by-cons}
use Rattle.std.proofs.lemmas.Bool.{cases_lt, eqb-true}
use Rattle.ir.specs.declared.handle.Table.{Table}
use Rattle.records.specs.Handles.{handles_of}
use Rattle.rules.specs.Module.{Record, Item}
use Rattle.rules.specs.Items.{handles, numbers}
use Rattle.draft.specs.declared.state.SlotTable.{SlotTable}
use Rattle.draft.specs.declared.state.SlotTable.TheVariants as slots
use Rattle.draft.specs.Manner.{manner_of}
use Rattle.draft.specs.State.{State, start, step, stepped, state, item_of, table_in}
use Rattle.draft.specs.Admitted.{image, Accepted}
use Rattle.draft.proofs.Stepping.{accepted_front, image_append, image_more}
use Rattle.draft.proofs.Fronts.{fronted_so}
use Rattle.arena.specs.Viewing.{rank, same_table}
use Rattle.arena.proofs.Finding.{waiting_at}
use Rattle.items.specs.declared.section.Section.TheVariants.{Numbered}
use Rattle.items.specs.Between.{gained, items_between}
use Rattle.items.proofs.Between.{front, none_between}
use Rattle.tables.proofs.Few.{numbers_few, record_few, records_few, parts_few}
use Rattle.tables.proofs.Made.{met}

-- an item with what it took, in bytes
abbrev pub weight : Item → ℕ
weight i = length i.bytes + length (image i.taken)

-- its operands are no more than that
pub item_few : (t : Table) (i : Item) → length (numbers t (handles i)) ≤ weight i
item_few t i = omega (arith, numbers_few t (handles i), length-append (handles_of i.bytes) (flat_map handles_of i.taken), record_few i.bytes, records_few i.taken)

-- the items of a table other than that of the records that are taken
module _ (t : SlotTable) (untaken : rank t ≡ 1 → ⊥) where
  apart : (u : SlotTable) → same_table t u ≡ true → same_table slots.Taken u ≡ true → ⊥
  apart u e f = untaken (eqb-true (rank t) (rank u) e ∙ sym (eqb-true 1 (rank u) f))

  weighed : (a b : Bool) → (a ≡ true → b ≡ true → ⊥) → (i : Item) (rest : List Item) (n : ℕ) → sum_by weight rest ≤ length (image (cond b (i.taken ++ i.bytes ∷ []) [])) + n → sum_by weight (cond a (i ∷ rest) rest) ≤ weight i + n
  weighed true true never i rest n l = absurd (never refl refl)
  weighed true false never i rest n l = omega (arith, sum_by-cons weight i rest)
  weighed false true never i rest n l = omega (arith, image_more i.taken i.bytes)
  weighed false false never i rest n l = omega arith

  gained_weigh : (s : State) (rs : List Record) → Accepted s rs → sum_by weight (gained (Numbered t) s rs) ≤ length (image s.waiting) + length (image rs)
  gained_weigh s [] a = omega arith
  gained_weigh s (r ∷ rs) a =
      let x = met t s r rs a in
      let u = table_in s.opened (manner_of x.kind).table in
      let later = gained_weigh (stepped x.kind r s) rs x.rest in
      let waits = ap (λ l. length (image l)) (waiting_at x.kind s.opened s.waiting r) in
      let all = weighed (same_table t u) (same_table slots.Taken u) (apart u) (item_of s r) (gained (Numbered t) (stepped x.kind r s) rs) (length (image rs)) (omega arith) in
      omega (arith, length-append r (image rs), ap (sum_by weight) x.items)

-- records behind accepted ones are accepted
pub accepted_back : (s : State) (m n : List Record) → Accepted s (m ++ n) → Accepted (fold step s m) n
accepted_back s [] n a = a
accepted_back s (r ∷ m) n a = accepted_back (step s r) m n a.1

module _ (m : List Record) (a : Accepted start m) where
  accepted_at : (x n : ℕ) → Accepted (state (take x m)) (take n (drop x m))
  unfolding state
  accepted_at x n =
      let k : take x m ++ (take n (drop x m) ++ drop n (drop x m)) ≡ m = ap (λ l. take x m ++ l) (take-append-drop n (drop x m)) ∙ take-append-drop x m in
      let b = accepted_back start (take x m) (take n (drop x m) ++ drop n (drop x m)) (subst (Accepted start) (sym k) a) in
      accepted_front (state (take x m)) (take n (drop x m)) (drop n (drop x m)) b

  waiting_within : (x : ℕ) → length (image (state (take x m)).waiting) ≤ length (image (take x m))
  waiting_within x =
      let f = fronted_so (take x m) (front m x a) in
      omega (arith, ap length (image_append f.front (state (take x m)).waiting), length-append (image f.front) (image (state (take x m)).waiting), ap (λ l. length (image l)) f.parts)

  -- what waits before a place is taken at most once behind it
  pub between_weigh : (t : SlotTable) → (rank t ≡ 1 → ⊥) → (x to : ℕ) → sum_by weight (items_between (Numbered t) m x to) ≤ length (image m)
  unfolding items_between
  between_weigh t untaken x to =
      elim (cases_lt x to) [
        | inl l ↦
            let n = to - x in
            let on : x + n ≡ to = omega arith in
            let cut : drop x (take to m) ≡ take n (drop x m) = ap (λ k. drop x (take k m)) (sym on) ∙ drop-take x n m in
            omega (arith, ap (λ l. sum_by weight (gained (Numbered t) (state (take x m)) l)) cut, gained_weigh t untaken (state (take x m)) (take n (drop x m)) (accepted_at x n), waiting_within x, parts_few x m, parts_few n (drop x m))
        | inr l ↦ omega (arith, ap (sum_by weight) (none_between (Numbered t) m x to l))
      ]
