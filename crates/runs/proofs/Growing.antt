-- One record more: every table keeps its items, and the item that the record makes is where its number says.
use Rattle.std.proofs.Common.{◌≡◌, ℕ, true, false, ◌&&◌, length, ◌++◌, ◌∷◌, [], Some, None, Option, sym, refl, ap, ◌∙◌, subst}
use Rattle.std.specs.List.{slice_get}
use Rattle.std.proofs.lemmas.Bool.{eq-eqb}
use Rattle.ir.specs.declared.handle.Handle.{Handle}
use Rattle.ir.specs.declared.handle.Table.{Table}
use Rattle.ir.specs.declared.handle.Table.TheVariants as handles
use Rattle.ir.specs.declared.kinds.Kind.{Kind}
use Rattle.ir.specs.Handle.{table_of as handle_table}
use Rattle.rules.specs.Module.{Record}
use Rattle.draft.specs.declared.state.BodyKind.{BodyKind}
use Rattle.draft.specs.declared.state.BodyKind.TheVariants as body_kind
use Rattle.draft.specs.declared.state.SlotTable.{SlotTable}
use Rattle.draft.specs.declared.state.SlotTable.TheVariants as table
use Rattle.draft.specs.State.{State, stepped, item_of, number_of_next, table_of}
use Rattle.draft.proofs.Stepping.{Admits}
use Rattle.arena.specs.declared.view.Home.{Home}
use Rattle.arena.specs.Answer.{Answer, answered}
use Rattle.arena.specs.Viewing.{items_in, slot_table, among, enters}
use Rattle.arena.proofs.Homes.{grown, local, nth_last, FlagOf, flag_in, outside_table, home_step}
use Rattle.runs.specs.Homes.{home_in, home_of}
use Rattle.runs.proofs.Keeping.{Keeps, keeps_grown}

pub step_keeps : (s : State) (r : Record) (k : Kind) → Admits s r k → (h : Home) (t : Table) → Keeps (items_in h t s) (items_in h t (stepped k r s))
step_keeps s r k a h t =
    let f = flag_in h s in
    subst (Keeps (items_in h t s)) (sym (home_step s r k a h t f.0 f.1).items) (keeps_grown _ (items_in h t s) (item_of s r))

-- the table of an answer's handle
abbrev pub answer_table : Answer → Table
answer_table (Some h) = handle_table h
answer_table None = handles.Types

-- the items of the home where a record of this table is numbered: it comes among them
record Lands (s : State) (u : SlotTable) (n : ℕ) : Type 0 where
  flag : FlagOf (home_in s u) s true
  hit : (enters (home_in s u) true u n && among (slot_table (home_in s u) (answer_table (answered u n))) u) ≡ true

lands : (s : State) (o : Option BodyKind) (u : SlotTable) (n : ℕ) (h : Handle) → answered u n ≡ Some h → (o ≡ None → local u ≡ false) → Lands (record s { opened = o }) u n
lands s o table.Unnumbered n h e out = absurd cc
lands s o table.Taken n h e out = absurd cc
lands s None table.LocalVariables n h e out = let no = out refl in absurd cc
lands s (Some body_kind.Function) table.LocalVariables n h e out = record { flag = sym (eq-eqb (length s.built.functions) _ refl); hit = refl }
lands s (Some body_kind.EntryPoint) table.LocalVariables n h e out = record { flag = sym (eq-eqb (length s.built.entries) _ refl); hit = refl }
lands s None table.LocalExpressions n h e out = let no = out refl in absurd cc
lands s (Some body_kind.Function) table.LocalExpressions n h e out = record { flag = sym (eq-eqb (length s.built.functions) _ refl); hit = refl }
lands s (Some body_kind.EntryPoint) table.LocalExpressions n h e out = record { flag = sym (eq-eqb (length s.built.entries) _ refl); hit = refl }
lands s o u n h e out = record { flag = tt; hit = refl }

pub home_has : (s : State) (r : Record) (k : Kind) → Admits s r k → (h : Handle) → answered (table_of s k) (number_of_next (table_of s k) s) ≡ Some h
    → slice_get (items_in (home_of s k) (handle_table h) (stepped k r s)) (number_of_next (table_of s k) s) ≡ Some (item_of s r)
home_has s r k a h e =
    let n = number_of_next (table_of s k) s in
    let t = answer_table (answered (table_of s k) n) in
    let l = lands s s.opened (table_of s k) n h e (outside_table s r k a) in
    let p = home_step s r k a (home_of s k) t true l.flag in
    let xs = items_in (home_of s k) t s in
    let more : items_in (home_of s k) t (stepped k r s) ≡ xs ++ item_of s r ∷ [] = p.items ∙ ap (λ z. grown z xs (item_of s r)) l.hit in
    subst
    (λ o. slice_get (items_in (home_of s k) o (stepped k r s)) n ≡ Some (item_of s r))
    (ap answer_table e)
    (ap (λ ys. slice_get ys n) more ∙ ap (slice_get (xs ++ item_of s r ∷ [])) (p.number l.hit) ∙ nth_last xs (item_of s r))
