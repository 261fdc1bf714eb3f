-- What a view of a draft answers.
use Rattle.std.specs.Prelude.{◌≡◌, ℕ, ◌+◌, Bool, true, false, cond, ◌&&◌, List, [], ◌∷◌, map, Some, None, Option, ◌==◌}
use Rattle.std.specs.List.{slice_get}
use Rattle.std.specs.Option.{is_none}
use Rattle.std.specs.Iterator.Adapters.{enumerate_count, enumerate_source}
use Rattle.std.specs.Slice.Iter.{iter_rest}
use Rattle.ir.specs.declared.handle.Table.{Table}
use Rattle.ir.specs.declared.handle.Table.TheVariants as handles
use Rattle.rules.specs.Module.{Record, Item, Body}
use Rattle.draft.specs.declared.state.BodyKind.{BodyKind}
use Rattle.draft.specs.declared.state.BodyKind.TheVariants as body_kind
use Rattle.draft.specs.declared.state.SlotTable.{SlotTable}
use Rattle.draft.specs.declared.state.SlotTable.TheVariants as table
use Rattle.draft.specs.State.{State, functions_now, entries_now}
use Rattle.arena.specs.declared.Draft.{Draft}
use Rattle.arena.specs.declared.slot.Slot.{Slot}
use Rattle.arena.specs.declared.places.Places.{Places}
use Rattle.arena.specs.declared.view.Home.{Home}
use Rattle.arena.specs.declared.view.Home.TheVariants as home
use Rattle.arena.specs.declared.view.View.{View}
use Rattle.arena.specs.Memory.{Stands, records}

-- the items of a table of the module, in the order of their numbers; of a function and an entry point the record that opened it
abbrev pub module_items : Table → State → List Item
module_items handles.Types s = s.built.types
module_items handles.Constants s = s.built.constants
module_items handles.Overrides s = s.built.overrides
module_items handles.GlobalVariables s = s.built.globals
module_items handles.LocalVariables s = []
module_items handles.Expressions s = s.built.expressions
module_items handles.Functions s = map (λ b. b.opener) (functions_now s.opened s.built s.body)
module_items handles.Filters s = s.built.filters
module_items handles.EntryPoints s = map (λ b. b.opener) (entries_now s.opened s.built s.body)

-- the items of a table of a body: a body has only local variables and expressions
abbrev pub body_items : Table → Option Body → List Item
body_items t None = []
body_items handles.LocalVariables (Some b) = b.locals
body_items handles.Expressions (Some b) = b.expressions
body_items t (Some b) = []

-- the items of a table, of the module or of the function or entry point with that number
abbrev pub items_in : Home → Table → State → List Item
items_in home.Module t s = module_items t s
items_in (home.Function n) t s = body_items t (slice_get (functions_now s.opened s.built s.body) n)
items_in (home.EntryPoint n) t s = body_items t (slice_get (entries_now s.opened s.built s.body) n)

-- their places among the kept records
abbrev pub places_in : Home → Table → State → List ℕ
places_in h t s = map (λ i. i.place) (items_in h t s)

-- no function is open and no records wait
abbrev pub finished : State → Bool
finished s = is_none s.opened && is_none s.waits

-- the memory of a view is as the last call left it
abbrev pub Views : View → Type 0
Views v = Stands v.draft.now v.bytes.now v.slots.now

-- the kept records that it shows
abbrev pub viewed : View → List Record
viewed v = records v.draft.now v.bytes.now v.slots.now

-- a view of this draft and this memory
pub record ViewOf (v : View) (d : Draft) (bytes : List ℕ) (slots : List Slot) : Type 0 where
  pub stands : Views v
  pub shows : viewed v ≡ records d bytes slots

-- the tables of slots by number
abbrev pub rank : SlotTable → ℕ
rank table.Unnumbered = 0
rank table.Taken = 1
rank table.Types = 2
rank table.Overrides = 3
rank table.Constants = 4
rank table.GlobalVariables = 5
rank table.Filters = 6
rank table.Expressions = 7
rank table.Functions = 8
rank table.EntryPoints = 9
rank table.LocalVariables = 10
rank table.LocalExpressions = 11

abbrev pub same_table : SlotTable → SlotTable → Bool
same_table t u = rank t == rank u

-- what the slots of a table of the module say
abbrev pub module_table : Table → Option SlotTable
module_table handles.Types = Some table.Types
module_table handles.Constants = Some table.Constants
module_table handles.Overrides = Some table.Overrides
module_table handles.GlobalVariables = Some table.GlobalVariables
module_table handles.LocalVariables = None
module_table handles.Expressions = Some table.Expressions
module_table handles.Functions = Some table.Functions
module_table handles.Filters = Some table.Filters
module_table handles.EntryPoints = Some table.EntryPoints

-- what the slots of a table of a body say: a body has only local variables and expressions
abbrev pub body_table : Table → Option SlotTable
body_table handles.LocalVariables = Some table.LocalVariables
body_table handles.Expressions = Some table.LocalExpressions
body_table t = None

abbrev pub slot_table : Home → Table → Option SlotTable
slot_table home.Module t = module_table t
slot_table (home.Function n) t = body_table t
slot_table (home.EntryPoint n) t = body_table t

abbrev pub among : Option SlotTable → SlotTable → Bool
among None t = false
among (Some w) t = same_table w t

-- the body that a slot of this table opens: only a function or an entry point opens one
abbrev pub opens : SlotTable → Option BodyKind
opens table.Functions = Some body_kind.Function
opens table.EntryPoints = Some body_kind.EntryPoint
opens t = None

abbrev pub other : Option BodyKind → Option BodyKind
other None = None
other (Some body_kind.Function) = Some body_kind.EntryPoint
other (Some body_kind.EntryPoint) = Some body_kind.Function

-- whether the function with the number n is entered, where a body with the number k opens
abbrev pub entered : ℕ → Bool → ℕ → Option BodyKind → Bool
entered n inside k None = inside
entered n inside k (Some body_kind.Function) = k == n
entered n inside k (Some body_kind.EntryPoint) = false

-- whether a slot of this table and number stands in a home, where those before it do or do not
abbrev pub enters : Home → Bool → SlotTable → ℕ → Bool
enters home.Module inside t k = true
enters (home.Function n) inside t k = entered n inside k (opens t)
enters (home.EntryPoint n) inside t k = entered n inside k (other (opens t))

-- the places of the slots in the table of a home, among slots that begin at a place
abbrev pub places_left : Home → Option SlotTable → Bool → ℕ → List Slot → List ℕ
places_left h w inside p [] = []
places_left h w inside p (s ∷ ss) = cond (enters h inside s.table s.number && among w s.table) (p ∷ places_left h w (enters h inside s.table s.number) (p + 1) ss) (places_left h w (enters h inside s.table s.number) (p + 1) ss)

-- those that an iterator has still to give
abbrev pub places_ahead : Places → List ℕ
places_ahead s = places_left s.home s.table s.inside (enumerate_count s.slots) (iter_rest (enumerate_source s.slots))
