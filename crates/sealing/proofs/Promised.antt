-- What it says of a module that every test of sealing passes.
use Rattle.std.proofs.Common.{◌≡◌, ℕ, suc, ◌<◌, Bool, true, false, cond, List, [], ◌∷◌, ◌++◌, map, filter, length, slice_get, flat_map, Some, None, sym, refl, ap, ◌∙◌, subst, ltb-true}
use Rattle.std.specs.List.{AllByRecursion}
use Rattle.std.proofs.ByRecursion.{All-append, All-weaker}
use Rattle.std.proofs.lemmas.Grind.{flat_map-append}
use Rattle.ir.specs.declared.handle.Table.TheVariants as table
use Rattle.records.specs.Handles.{handles_of}
use Rattle.rules.specs.declared.faults.Rule.TheVariants as rule
use Rattle.rules.specs.Module.{Item, Body, Module}
use Rattle.rules.specs.Kinds.{CallResult, Call, is}
use Rattle.rules.specs.Items.{handles, numbers, init_of, pending_of, at}
use Rattle.rules.specs.Sizes.{sizes}
use Rattle.rules.specs.Fault.{numbered}
use Rattle.rules.specs.Check.{init_tests, size_tests, pending_tests, base_tests, type_tests, check_tests, check}
use Rattle.rules.specs.Once.{inits}
use Rattle.rules.proofs.Once.{all_flat}
use Rattle.rules.specs.Verdict.{AllHold, NamesEarlier, CallsEarlier, Ordered}
use Rattle.rules.proofs.Passing.{hold_from_none, none_from_hold, hold_left, hold_right, hold_each, hold_numbered, below_from_hold}
use Rattle.rules.proofs.Verdict.{verdict}
use Rattle.items.proofs.Numbered.{mapped_at}
use Rattle.node.specs.Nodes.{Node}
use Rattle.tables.specs.Tables.{node_of, records_of, callees, function_node}
use Rattle.tables.proofs.Numbers.{numbers_append}
use Rattle.sealing.specs.Seal.{global_tests, pending_tests as sized_tests, body_tests, calls, call_tests, other_tests, inner_then_other_tests, seal_tests, all_tests, seal}
use Rattle.walk.specs.Rule.{OperandsEarlier}
use Rattle.sealing.specs.Promised.{TablesEarlier, ExactlyWhenAllHold, InitsInside, ResultsEarlier}

pub exactly : (m : Module) → ExactlyWhenAllHold m
exactly m = record { holds = hold_from_none (all_tests m); passes = none_from_hold (all_tests m) }

-- what is shown as nodes, each with earlier operands only
nodes_earlier : {X : Type 0} (node : X → Node) (xs : List X) → ((n : ℕ) (x : X) → slice_get xs n ≡ Some x → AllByRecursion (λ k. k < n) (node x).operands) → OperandsEarlier (map node xs)
nodes_earlier node xs each n y s = let g = mapped_at node xs n y s in subst (λ z. AllByRecursion (λ k. k < n) z.operands) g.2 (each n g.0 g.1)

-- the functions of the results of calls, where each names earlier functions
module _ (f : ℕ) where
  one_result : (b : Bool) (i : Item) (kept : List Item) → (b ≡ true → AllByRecursion (λ x. x < f) (numbers table.Functions (handles_of i.bytes))) → AllByRecursion (λ x. x < f) (numbers table.Functions (flat_map handles_of (map (λ j. j.bytes) kept))) → AllByRecursion (λ x. x < f) (numbers table.Functions (flat_map handles_of (map (λ j. j.bytes) (cond b (i ∷ kept) kept))))
  one_result true i kept own rest =
      subst (λ l. AllByRecursion (λ x. x < f) l) (sym (numbers_append table.Functions (handles_of i.bytes) (flat_map handles_of (map (λ j. j.bytes) kept))))
      (All-append (λ x. x < f) (numbers table.Functions (handles_of i.bytes)) _ (own refl) rest)
  one_result false i kept own rest = rest

  results_earlier : (items : List Item) → ((n : ℕ) (i : Item) → slice_get items n ≡ Some i → is CallResult i ≡ true → AllByRecursion (λ x. x < f) (numbers table.Functions (handles_of i.bytes))) → AllByRecursion (λ x. x < f) (numbers table.Functions (flat_map handles_of (records_of CallResult items)))
  results_earlier [] each = tt
  results_earlier (i ∷ items) each = one_result (is CallResult i) i (filter (is CallResult) items) (each 0 i refl) (results_earlier items (λ n. each (suc n)))

-- those that a body calls: of the results, and of the calls
pub callees_are : (b : Body) → callees b ≡ numbers table.Functions (flat_map handles_of (records_of CallResult b.expressions)) ++ calls b
callees_are b =
    ap (numbers table.Functions) (flat_map-append handles_of (records_of CallResult b.expressions) (records_of Call b.statements))
    ∙ numbers_append table.Functions (flat_map handles_of (records_of CallResult b.expressions)) (flat_map handles_of (records_of Call b.statements))

pub results_before : (f : ℕ) (b : Body) → CallsEarlier f b → AllByRecursion (λ x. x < f) (numbers table.Functions (flat_map handles_of (records_of CallResult b.expressions)))
results_before f b h = results_earlier f b.expressions h

-- the init of a pending size is inside where the type passes the check
module _ (m : Module) (t : ℕ) where
  size_inside : (place : ℕ) (v : Item) → AllHold (size_tests m t place v) → AllByRecursion (λ e. e < length m.expressions) (init_of v)
  size_inside place v h =
      All-weaker (λ e. AllHold (init_tests m t place e)) (λ e. e < length m.expressions) (λ e k. ltb-true e (length m.expressions) k.0) (init_of v)
      (hold_each (init_tests m t place) (init_of v) (hold_right _ (flat_map (init_tests m t place) (init_of v)) h))

  pending_inside : (place o : ℕ) → AllHold (pending_tests m t place o) → AllByRecursion (λ v. AllByRecursion (λ e. e < length m.expressions) (init_of v)) (at m.overrides o)
  pending_inside place o h =
      All-weaker (λ v. AllHold (size_tests m t place v)) (λ v. AllByRecursion (λ e. e < length m.expressions) (init_of v)) (size_inside place) (at m.overrides o)
      (hold_each (size_tests m t place) (at m.overrides o) h.1)

  inits_inside : (i : Item) → AllHold (type_tests m t i) → AllByRecursion (λ e. e < length m.expressions) (inits m i)
  inits_inside i h =
      let P : ℕ → Type 0 = λ e. e < length m.expressions in
      all_flat P init_of (flat_map (at m.overrides) (pending_of i))
      (all_flat (λ v. AllByRecursion P (init_of v)) (at m.overrides) (pending_of i)
      (All-weaker (λ o. AllHold (pending_tests m t i.place o)) (λ o. AllByRecursion (λ v. AllByRecursion P (init_of v)) (at m.overrides o)) (pending_inside i.place) (pending_of i)
      (hold_each (pending_tests m t i.place) (pending_of i) (hold_right (base_tests t i) (flat_map (pending_tests m t i.place) (pending_of i)) h))))

-- what sealing needs of the check
pub checked_inits : (m : Module) → check m ≡ None → InitsInside m
checked_inits m none t i s =
    let h = hold_from_none (check_tests m) none in
    inits_inside m t i (hold_numbered (type_tests m) m.types (hold_left (numbered (type_tests m) m.types) _ h) t i s)

pub checked_results : (m : Module) → check m ≡ None → ResultsEarlier m
checked_results m none = ((verdict m).ordered none).calls

module _ (m : Module) (h : AllHold (all_tests m)) where
  ordered : Ordered m
  ordered = (verdict m).ordered (none_from_hold (check_tests m) (hold_left (check_tests m) (seal_tests m) h))

  sealing : AllHold (seal_tests m)
  sealing = hold_right (check_tests m) (seal_tests m) h

  globals_earlier : NamesEarlier table.Expressions m.expressions
  globals_earlier n i s =
      let globals : AllHold (numbered (global_tests (sizes m)) m.expressions) = hold_left _ (numbered (sized_tests m) m.types ++ inner_then_other_tests m) sealing in
      let one = hold_numbered (global_tests (sizes m)) m.expressions globals n i s in
      below_from_hold rule.SealedEarlier table.Expressions n i.place (numbers table.Expressions (handles i)) (hold_left _ _ one.1)

  calls_hold : AllHold (numbered call_tests m.functions)
  calls_hold =
      let inner = hold_right (numbered (sized_tests m) m.types) (inner_then_other_tests m) (hold_right (numbered (global_tests (sizes m)) m.expressions) _ sealing) in
      let entries = hold_right (flat_map (body_tests (sizes m)) m.functions) _ inner in
      hold_left (numbered call_tests m.functions) (other_tests m) (hold_right (flat_map (body_tests (sizes m)) m.entries) _ entries)

  callees_earlier : (f : ℕ) (b : Body) → slice_get m.functions f ≡ Some b → AllByRecursion (λ x. x < f) (callees b)
  callees_earlier f b s =
      subst (λ l. AllByRecursion (λ x. x < f) l) (sym (callees_are b))
      (All-append (λ x. x < f) _ (calls b) (results_before f b (ordered.calls f b s))
      (below_from_hold rule.SealedEarlier table.Functions f b.opener.place (calls b) (hold_numbered call_tests m.functions calls_hold f b s)))

  tables_earlier : TablesEarlier m
  tables_earlier = record {
    types = nodes_earlier (node_of table.Types) m.types ordered.types;
    filters = nodes_earlier (node_of table.Filters) m.filters ordered.filters;
    functions = nodes_earlier function_node m.functions callees_earlier;
    expressions = nodes_earlier (node_of table.Expressions) m.expressions globals_earlier;
    bodies = All-weaker (λ b. NamesEarlier table.Expressions b.expressions) (λ b. OperandsEarlier (map (node_of table.Expressions) b.expressions)) (λ b. nodes_earlier (node_of table.Expressions) b.expressions) (m.functions ++ m.entries) ordered.bodies;
  }

-- in a module that sealing accepts, the operands of the five tables are earlier
pub sealed_earlier : (m : Module) → seal m ≡ None → TablesEarlier m
sealed_earlier m none = tables_earlier m (hold_from_none (all_tests m) none)
