-- The bodies of a draft's module, by places.
use Rattle.std.proofs.Common.{◌≡◌, ℕ, suc, ◌+◌, ◌<◌, ◌≤◌, true, List, [], ◌∷◌, ◌++◌, map, length, take, slice_get, Some, None, Option, refl, subst, arith}
use Rattle.std.specs.List.{AllByRecursion}
use Rattle.std.specs.Option.{option_map}
use Rattle.std.proofs.ByRecursion.{All-append, All-weaker}
use Rattle.std.proofs.lemmas.Option.{slice_get_within, slice_get-get_or}
use Rattle.ir.specs.declared.kinds.Kind.{Kind}
use Rattle.ir.specs.declared.kinds.Kind.TheVariants as kind
use Rattle.rules.specs.Module.{Record, Item, Body}
use Rattle.draft.specs.declared.state.BodyKind.{BodyKind}
use Rattle.draft.specs.declared.state.BodyKind.TheVariants as body_kind
use Rattle.draft.specs.declared.state.SlotTable.TheVariants as table
use Rattle.draft.specs.declared.manner.Side.TheVariants as side
use Rattle.draft.specs.Manner.{manner_of}
use Rattle.draft.specs.State.{State, start, state, on_side}
use Rattle.draft.specs.Admitted.{Accepted}
use Rattle.draft.proofs.Stepping.{outside_only}
use Rattle.items.specs.declared.section.Section.{Section}
use Rattle.items.specs.declared.section.Section.TheVariants.{Numbered}
use Rattle.items.specs.Between.{item_at}
use Rattle.items.specs.Whole.{items_of, ending_from, body_of, module_of}
use Rattle.promises.specs.Kept.{UpTo, StandsIn}
use Rattle.promises.proofs.Made.{Made, BodyMade, module_made}
use Rattle.promises.proofs.Opened.{Placed, OpenAt, does, open_in, function_opens, entry_opens, placed_between}

module _ (m : List Record) (a : Accepted start m) where
  abbrev before : ℕ → State
  before p = state (take p m)

  pub placed_all : (sec : Section) → AllByRecursion (Placed m) (items_of sec m)
  placed_all sec = All-weaker (λ i. (0 ≤ i.place) × (i.place < length m) × Placed m i) (Placed m) (λ i h. h.2) (items_of sec m) (placed_between m a sec 0 (length m) (omega arith))

  pub closed_before : (k : Kind) (i : Item) → (manner_of k).side ≡ side.Outside → Placed m i → Made k i → (before i.place).opened ≡ None
  closed_before k i s w h =
      let d = does m a i k w h.kind_is in
      outside_only (before i.place).opened (subst (λ z. on_side (before i.place).opened z ≡ true) s d.0.on_its_side)

  -- a body of the module
  pub record BodyAt (b : Body) : Type 0 where
    pub item : Item
    pub is : b ≡ body_of m item
    pub placed : Placed m item
    pub kind_of_body : BodyKind
    pub opens : OpenAt m (item.place + 1) kind_of_body item
    pub before_it : (before item.place).opened ≡ None

  pub functions_at : (is : List Item) → AllByRecursion (Placed m) is → AllByRecursion (Made kind.Function) is → AllByRecursion BodyAt (map (body_of m) is)
  functions_at [] w h = tt
  functions_at (i ∷ is) w h = (
    record { item = i; is = refl; placed = w.0; kind_of_body = body_kind.Function; opens = function_opens m a i w.0 h.0; before_it = closed_before kind.Function i refl w.0 h.0 },
    functions_at is w.1 h.1,
  )

  pub entries_at : (is : List Item) → AllByRecursion (Placed m) is → AllByRecursion (Made kind.EntryPoint) is → AllByRecursion BodyAt (map (body_of m) is)
  entries_at [] w h = tt
  entries_at (i ∷ is) w h = (
    record { item = i; is = refl; placed = w.0; kind_of_body = body_kind.EntryPoint; opens = entry_opens m a i w.0 h.0; before_it = closed_before kind.EntryPoint i refl w.0 h.0 },
    entries_at is w.1 h.1,
  )

  pub openers_made : (k : Kind) (is : List Item) → AllByRecursion (BodyMade k) (map (body_of m) is) → AllByRecursion (Made k) is
  openers_made k [] h = tt
  openers_made k (i ∷ is) h = (h.0.opener, openers_made k is h.1)

  pub up_to : (to p : ℕ) (o : Option Record) → slice_get m to ≡ o → UpTo (option_map (item_at m to) o) p → (p ≤ to) × (to < length m)
  up_to to p None e u = absurd u
  up_to to p (Some r) e u = (u, slice_get_within m to r e)

  pub from_up_to : (to p : ℕ) (o : Option Record) → slice_get m to ≡ o → to < length m → p ≤ to → UpTo (option_map (item_at m to) o) p
  from_up_to to p None e l u = let g = slice_get-get_or m to [] l in absurd cc
  from_up_to to p (Some r) e l u = u

  -- a body is open at what stands in it
  pub stands_open : (b : Body) (t : BodyAt b) (p : ℕ) → StandsIn b p → OpenAt m p t.kind_of_body t.item
  stands_open b t p s =
      let q : StandsIn (body_of m t.item) p = subst (λ y. StandsIn y p) t.is s in
      let to = ending_from m (suc t.item.place) in
      let u = up_to to p (slice_get m to) refl q.1 in
      open_in m a t.kind_of_body t.item p t.opens q.0 u.0 (let l = u.1 in let n = u.0 in omega arith)

  pub bodies_are : AllByRecursion BodyAt ((module_of m).functions ++ (module_of m).entries)
  bodies_are =
      let w = module_made m a in
      All-append BodyAt (module_of m).functions (module_of m).entries
      (functions_at (items_of (Numbered table.Functions) m) (placed_all (Numbered table.Functions)) (openers_made kind.Function (items_of (Numbered table.Functions) m) w.functions))
      (entries_at (items_of (Numbered table.EntryPoints) m) (placed_all (Numbered table.EntryPoints)) (openers_made kind.EntryPoint (items_of (Numbered table.EntryPoints) m) w.entries))
