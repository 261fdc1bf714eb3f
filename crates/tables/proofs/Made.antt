-- The item that an accepted record makes.
use Rattle.std.proofs.Common.{◌≡◌, Bool, cond, List, ◌∷◌, ap, ◌∙◌, subst}
use Rattle.ir.specs.declared.kinds.Kind.{Kind}
use Rattle.rules.specs.Module.{Record}
use Rattle.draft.specs.declared.state.SlotTable.{SlotTable}
use Rattle.draft.specs.Manner.{manner_of}
use Rattle.draft.specs.State.{State, step, stepped, item_of, table_in}
use Rattle.draft.specs.Admitted.{Accepted}
use Rattle.draft.proofs.Stepping.{Admits, admitted_kind, step_is}
use Rattle.arena.specs.Memory.{table_judged}
use Rattle.arena.specs.Viewing.{same_table}
use Rattle.items.specs.declared.section.Section.TheVariants.{Numbered}
use Rattle.items.specs.Between.{gained}

-- whether a record makes an item of a table
abbrev pub made : SlotTable → State → Kind → Bool
made t s k = same_table t (table_in s.opened (manner_of k).table)

-- the item of an accepted record, if it makes one, and those behind it
pub record Met (t : SlotTable) (s : State) (r : Record) (rs : List Record) : Type 0 where
  pub kind : Kind
  pub admits : Admits s r kind
  pub rest : Accepted (stepped kind r s) rs
  pub items : gained (Numbered t) s (r ∷ rs) ≡ cond (made t s kind) (item_of s r ∷ gained (Numbered t) (stepped kind r s) rs) (gained (Numbered t) (stepped kind r s) rs)

pub met : (t : SlotTable) (s : State) (r : Record) (rs : List Record) → Accepted s (r ∷ rs) → Met t s r rs
met t s r rs a =
    let p = admitted_kind s r a.0 in
    let e = step_is s r p.0 p.1.kind_is in
    record {
      kind = p.0;
      admits = p.1;
      rest = subst (λ u. Accepted u rs) e a.1;
      items =
          ap (λ j. cond (same_table t (table_judged s j)) (item_of s r ∷ gained (Numbered t) (step s r) rs) (gained (Numbered t) (step s r) rs)) p.1.kind_is
          ∙ ap (λ u. cond (made t s p.0) (item_of s r ∷ gained (Numbered t) u rs) (gained (Numbered t) u rs)) e;
    }
