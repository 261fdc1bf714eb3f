-- Every kept record stands in the module once, and each table is in order of arrival.
use Rattle.std.specs.Prelude.{◌≡◌, ℕ, ◌+◌, ◌-◌, ◌<◌, ◌⊎◌, List, [], ◌∷◌, ◌++◌, map, length, Some, None, sum_by, Option}
use Rattle.std.specs.List.{ContainsAt as Has, flat_map, enumerate_from, AllByRecursion}
use Rattle.rules.specs.Module.{Record, Item, Body, Module}
use Rattle.draft.specs.State.{State, state, functions_now, entries_now}

-- a record with its place among the kept ones
abbrev pub Entry : Type 0
Entry = ℕ × Record

-- an item stands at its place, and what it took right before it
abbrev pub entries_of : Item → List Entry
entries_of i = enumerate_from (i.place - length i.taken) (i.taken ++ i.bytes ∷ [])

abbrev pub entries_of_any : Option Item → List Entry
entries_of_any None = []
entries_of_any (Some i) = entries_of i

abbrev pub items_entries : List Item → List Entry
items_entries items = flat_map entries_of items

abbrev pub body_entries : Body → List Entry
body_entries b =
    entries_of b.opener ++ (items_entries b.arguments ++ (entries_of_any b.result ++ (items_entries b.locals
    ++ (items_entries b.named ++ (items_entries b.expressions ++ (items_entries b.statements ++ entries_of_any b.ending))))))

-- the bodies, the open one too
abbrev pub bodies : State → List Body
bodies s = functions_now s.opened s.built s.body ++ entries_now s.opened s.built s.body

-- all that stands in the module, and what waits behind it
abbrev pub standing : State → List Entry
standing s =
    items_entries s.built.types ++ (items_entries s.built.overrides ++ (items_entries s.built.constants
    ++ (items_entries s.built.globals ++ (entries_of_any s.built.special ++ (items_entries s.built.predeclared
    ++ (items_entries s.built.filters ++ (entries_of_any s.built.leaf ++ (items_entries s.built.expressions
    ++ (flat_map body_entries (bodies s) ++ enumerate_from (s.kept - length s.waiting) s.waiting)))))))))

-- the item that counts came later
abbrev pub Later : Option Item → ℕ → Type 0
Later None p = ⊥
Later (Some i) p = p < i.place

abbrev pub Starts : Record → ℕ → Type 0
Starts r k = (rest : List ℕ) × (r ≡ k ∷ rest)

-- special types (6), a leaf (9) or a body's result (14) that a later one replaced
abbrev pub Replaced : State → Entry → Type 0
Replaced s e =
    (Starts e.1 6 × Later s.built.special e.0)
    ⊎ ((Starts e.1 9 × Later s.built.leaf e.0)
    ⊎ (Starts e.1 14 × ((b : Body) × Has (bodies s) b × (b.opener.place < e.0) × Later b.result e.0)))

abbrev pub Ascending : List ℕ → Type 0
Ascending [] = Unit {0}
Ascending (x ∷ xs) = AllByRecursion (λ y. x < y) xs × Ascending xs

-- items in order of arrival
abbrev pub Arrived : List Item → Type 0
Arrived items = Ascending (map (λ i. i.place) items)

pub record BodyArrived (b : Body) : Type 0 where
  pub arguments : Arrived b.arguments
  pub locals : Arrived b.locals
  pub named : Arrived b.named
  pub expressions : Arrived b.expressions
  pub statements : Arrived b.statements

pub record ModuleArrived (m : Module) : Type 0 where
  pub types : Arrived m.types
  pub overrides : Arrived m.overrides
  pub constants : Arrived m.constants
  pub globals : Arrived m.globals
  pub predeclared : Arrived m.predeclared
  pub filters : Arrived m.filters
  pub expressions : Arrived m.expressions
  pub functions : Arrived (map (λ b. b.opener) m.functions)
  pub entries : Arrived (map (λ b. b.opener) m.entries)

-- the kept records are those that stand in the module or wait, and those that a later one replaced, each once: however
-- they are weighed, both weigh the same
pub record Decoded (m : List Record) : Type 0 where
  pub gone : List Entry
  pub replaced : AllByRecursion (Replaced (state m)) gone
  pub once : (weight : Entry → ℕ) → sum_by weight (enumerate_from 0 m) ≡ sum_by weight (standing (state m)) + sum_by weight gone
  pub tables : ModuleArrived (state m).built
  pub in_bodies : AllByRecursion BodyArrived (bodies (state m))
