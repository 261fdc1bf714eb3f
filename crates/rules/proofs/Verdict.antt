-- The check answers no fault exactly when every test passes, and then what each item names is earlier.
use Rattle.std.proofs.Common.{◌≡◌, ℕ, ◌<◌, List, [], ◌∷◌, slice_get, flat_map, Some, None, Option, ltb-true}
use Rattle.std.specs.List.{AllByRecursion}
use Rattle.std.proofs.ByRecursion.{All-append, All-weaker}
use Rattle.ir.specs.declared.handle.Table.TheVariants as table
use Rattle.ir.specs.declared.handle.Handle.{Handle}
use Rattle.ir.specs.declared.handle.Handle.TheVariants as handle
use Rattle.records.specs.Handles.{handles_of}
use Rattle.rules.specs.declared.faults.Rule.TheVariants as rule
use Rattle.rules.specs.Module.{Item, Body, Module}
use Rattle.rules.specs.Items.{handles, numbers}
use Rattle.rules.specs.Fault.{Test, numbered}
use Rattle.rules.specs.declared.sizes.Sizes.{Sizes}
use Rattle.rules.specs.Sizes.{sizes, sizes_in}
use Rattle.rules.specs.Check.{base_tests, type_tests, named_tests, operand_tests, expression_tests, body_tests, entry_tests, filter_tests, check_tests}
use Rattle.rules.specs.Verdict.{AllHold, Holds, NamesEarlier, CallsEarlier, Ordered, Verdict}
use Rattle.rules.proofs.Passing.{hold_from_none, none_from_hold, hold_left, hold_right, hold_each, hold_numbered, all_numbered, below_from_hold}

-- of the handles that a function's expression has, those of functions
named_earlier : (sizes : Sizes) (place f : ℕ) (i : Item) (hs : List Handle) → AllHold (flat_map (named_tests sizes place (Some f) i) hs) → AllByRecursion (λ x. x < f) (numbers table.Functions hs)
named_earlier sizes place f i [] h = tt
named_earlier sizes place f i (handle.Function g ∷ hs) h = (ltb-true g.index f h.1.0, named_earlier sizes place f i hs h.1.1)
named_earlier sizes place f i (g ∷ hs) h = named_earlier sizes place f i hs (hold_right (named_tests sizes place (Some f) i g) (flat_map (named_tests sizes place (Some f) i) hs) h)

module _ (sizes : Sizes) (o : Option ℕ) (b : Body) (h : AllHold (body_tests sizes o b)) where
  abbrev tests : ℕ → Item → List Test
  tests n i = expression_tests (sizes_in sizes b) b.opener.place o n i

  abbrev names : Item → List Test
  names i = flat_map (named_tests (sizes_in sizes b) b.opener.place o i) (handles_of i.bytes)

  expression_holds : (n : ℕ) (i : Item) → slice_get b.expressions n ≡ Some i → AllHold (tests n i)
  expression_holds =
      let each : AllHold (numbered tests b.expressions) = search (hold_left, hold_right) depth 7 in
      hold_numbered tests b.expressions each

  body_ordered : NamesEarlier table.Expressions b.expressions
  body_ordered n i s =
      below_from_hold rule.Earlier table.Expressions n i.place (numbers table.Expressions (handles i))
      (hold_right (names i) (operand_tests n i) (expression_holds n i s))

calls_ordered : (sizes : Sizes) (f : ℕ) (b : Body) → AllHold (body_tests sizes (Some f) b) → CallsEarlier f b
calls_ordered sizes f b h n i s e =
    named_earlier (sizes_in sizes b) b.opener.place f i (handles_of i.bytes)
    (hold_left (names sizes (Some f) b h i) (operand_tests n i) (expression_holds sizes (Some f) b h n i s))

module _ (m : Module) where
  ordered : Holds m → Ordered m
  ordered h =
      let types : AllHold (numbered (type_tests m) m.types) = search hold_left in
      let entries : AllHold (flat_map (entry_tests (sizes m)) m.entries) = search (hold_left, hold_right) depth 9 in
      let functions : AllHold (numbered (λ f. body_tests (sizes m) (Some f)) m.functions) = search (hold_left, hold_right) depth 12 in
      let filters : AllHold (numbered filter_tests m.filters) = search (hold_left, hold_right) depth 12 in
      let Fine : Body → Type 0 = λ b. NamesEarlier table.Expressions b.expressions in
      record {
        bodies =
            All-append Fine m.functions m.entries
            (all_numbered Fine (λ f. body_tests (sizes m) (Some f)) (λ f. body_ordered (sizes m) (Some f)) 0 m.functions functions)
            (All-weaker (λ b. AllHold (entry_tests (sizes m) b)) Fine (λ b p. body_ordered (sizes m) None b (hold_left (body_tests (sizes m) None b) _ p)) m.entries (hold_each (entry_tests (sizes m)) m.entries entries));
        types = λ t i s.
            below_from_hold rule.Earlier table.Types t i.place (numbers table.Types (handles i)) (hold_left (base_tests t i) _ (hold_numbered (type_tests m) m.types types t i s));
        filters = λ n i s. below_from_hold rule.Earlier table.Filters n i.place (numbers table.Filters (handles i)) (hold_numbered filter_tests m.filters filters n i s);
        calls = λ f b s. calls_ordered (sizes m) f b (hold_numbered (λ g. body_tests (sizes m) (Some g)) m.functions functions f b s);
      }

pub verdict : (m : Module) → Verdict m
verdict m = record {
  exact = record { holds = hold_from_none (check_tests m); passes = none_from_hold (check_tests m) };
  ordered = λ none. ordered m (hold_from_none (check_tests m) none);
}
