-- The module that kept records make, by the places of its items.
use Rattle.std.specs.Prelude.{ℕ, suc, ◌+◌, Bool, false, not, List, [], ◌∷◌, map, length, drop, Some, None, Option, ◌==◌}
use Rattle.std.specs.List.{slice_get, prefix_len}
use Rattle.std.specs.Option.{option_map}
use Rattle.rules.specs.Module.{Record, Item, Body, Module}
use Rattle.draft.specs.declared.state.SlotTable.TheVariants as table
use Rattle.items.specs.declared.section.Section.{Section}
use Rattle.items.specs.declared.section.Section.TheVariants.{Numbered, Kinds}
use Rattle.items.specs.Between.{item_at, items_between}

-- the last of some items
abbrev pub last_of : List Item → Option Item
last_of [] = None
last_of (i ∷ []) = Some i
last_of (i ∷ j ∷ is) = last_of (j ∷ is)

-- the items of a section that all the records make
abbrev pub items_of : Section → List Record → List Item
items_of sec m = items_between sec m 0 (length m)

-- a record that ends a body
abbrev pub ends : Record → Bool
ends [] = false
ends (byte ∷ body) = byte == 31

-- the place of the first record from a place on that ends a body
abbrev pub ending_from : List Record → ℕ → ℕ
ending_from m place = place + prefix_len (λ r. not (ends r)) (drop place m)

-- the body that an item opened, with what stands in it before a place
abbrev pub body_until : List Record → Item → ℕ → Body
body_until m i to = record {
  opener = i;
  arguments = items_between (Kinds 13 13) m (suc i.place) to;
  result = last_of (items_between (Kinds 14 14) m (suc i.place) to);
  locals = items_between (Numbered table.LocalVariables) m (suc i.place) to;
  named = items_between (Kinds 30 30) m (suc i.place) to;
  expressions = items_between (Numbered table.LocalExpressions) m (suc i.place) to;
  statements = items_between (Kinds 128 154) m (suc i.place) to;
  ending = option_map (item_at m to) (slice_get m to);
}

-- the whole body that an item opened
abbrev pub body_of : List Record → Item → Body
body_of m i = body_until m i (ending_from m (suc i.place))

-- the module
abbrev pub module_of : List Record → Module
module_of m = record {
  types = items_of (Numbered table.Types) m;
  overrides = items_of (Numbered table.Overrides) m;
  constants = items_of (Numbered table.Constants) m;
  globals = items_of (Numbered table.GlobalVariables) m;
  special = last_of (items_of (Kinds 6 6) m);
  predeclared = items_of (Kinds 7 7) m;
  filters = items_of (Numbered table.Filters) m;
  leaf = last_of (items_of (Kinds 9 9) m);
  expressions = items_of (Numbered table.Expressions) m;
  functions = map (body_of m) (items_of (Numbered table.Functions) m);
  entries = map (body_of m) (items_of (Numbered table.EntryPoints) m);
}
