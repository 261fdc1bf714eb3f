-- Items of the module by their numbers.
use Rattle.std.proofs.Common.{◌≡◌, ℕ, zero, suc, List, [], ◌∷◌, map, length, Some, None, refl, sym, ap, ◌∙◌, subst, arith}
use Rattle.std.specs.List.{slice_get}
use Rattle.std.proofs.lemmas.Option.{same_Some}
use Rattle.ir.specs.declared.handle.Table.{Table}
use Rattle.ir.specs.declared.handle.Table.TheVariants as handles
use Rattle.rules.specs.Module.{Record, Item}
use Rattle.draft.specs.declared.state.SlotTable.{SlotTable}
use Rattle.draft.specs.declared.state.SlotTable.TheVariants as table
use Rattle.draft.specs.State.{start, state}
use Rattle.draft.specs.Admitted.{Accepted}
use Rattle.arena.specs.Viewing.{module_items}
use Rattle.items.specs.declared.section.Section.TheVariants.{Numbered}
use Rattle.items.specs.Between.{item_at}
use Rattle.items.specs.Whole.{items_of}
use Rattle.items.proofs.Whole.{table_is}
use Rattle.items.proofs.Places.{between_at}

-- the element at a place of a map is made of the one at that place
pub mapped_at : {X Y : Type 0} (f : X → Y) (xs : List X) (n : ℕ) (y : Y) → slice_get (map f xs) n ≡ Some y → (x : X) × (slice_get xs n ≡ Some x) × (f x ≡ y)
mapped_at f [] n y e = absurd cc
mapped_at f (x ∷ xs) zero y e = (x, refl, same_Some (f x) y e)
mapped_at f (x ∷ xs) (suc n) y e = mapped_at f xs n y e

pub none_placed : (items : List Item) (n : ℕ) → slice_get (map (λ i. i.place) items) n ≡ None → slice_get items n ≡ None
none_placed [] n e = refl
none_placed (i ∷ items) zero e = absurd cc
none_placed (i ∷ items) (suc n) e = none_placed items n e

-- an item of a section is what the record at its place makes
abbrev Made : List Record → List Item → Type 0
Made m items = (n : ℕ) (i : Item) → slice_get items n ≡ Some i → (slice_get m i.place ≡ Some i.bytes) × (i ≡ item_at m i.place i.bytes)

made_in : (t : SlotTable) (m : List Record) → Accepted start m → Made m (items_of (Numbered t) m)
made_in t m a n i e = let b = between_at (Numbered t) m 0 (length m) n a (omega arith) i e in (b.2, b.3)

made : (t : Table) (m : List Record) → Accepted start m → Made m (module_items t (state m))
made handles.Types m a = subst (Made m) (table_is table.Types refl m a) (made_in table.Types m a)
made handles.Constants m a = subst (Made m) (table_is table.Constants refl m a) (made_in table.Constants m a)
made handles.Overrides m a = subst (Made m) (table_is table.Overrides refl m a) (made_in table.Overrides m a)
made handles.GlobalVariables m a = subst (Made m) (table_is table.GlobalVariables refl m a) (made_in table.GlobalVariables m a)
made handles.LocalVariables m a = λ n i e. absurd cc
made handles.Expressions m a = subst (Made m) (table_is table.Expressions refl m a) (made_in table.Expressions m a)
made handles.Functions m a = subst (Made m) (table_is table.Functions refl m a) (made_in table.Functions m a)
made handles.Filters m a = subst (Made m) (table_is table.Filters refl m a) (made_in table.Filters m a)
made handles.EntryPoints m a = subst (Made m) (table_is table.EntryPoints refl m a) (made_in table.EntryPoints m a)

-- the item that is found at a place that is found
pub found : (t : Table) (m : List Record) → Accepted start m → (n p : ℕ) → slice_get (map (λ i. i.place) (module_items t (state m))) n ≡ Some p → (bytes : Record) × (slice_get m p ≡ Some bytes) × (slice_get (module_items t (state m)) n ≡ Some (item_at m p bytes))
found t m a n p e =
    let q = mapped_at (λ i. i.place) (module_items t (state m)) n p e in
    let i = q.0 in
    let w = made t m a n i q.1 in
    (i.bytes, sym (ap (slice_get m) q.2) ∙ w.0, q.1 ∙ ap Some (w.1 ∙ ap (λ x. item_at m x i.bytes) q.2))
