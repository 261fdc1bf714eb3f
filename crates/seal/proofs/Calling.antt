-- The calls of a function, where those that it has results of are earlier.
use Rattle.std.proofs.Common.{◌≡◌, ℕ, zero, suc, List, [], ◌∷◌, map, Some, ap, ◌∙◌}
use Rattle.std.specs.List.{slice_get, flat_map}
use Rattle.std.proofs.lemmas.List.{map-append}
use Rattle.std.proofs.lemmas.Option.{same_Some}
use Rattle.ir.specs.declared.handle.Table.TheVariants as table
use Rattle.records.specs.Handles.{handles_of}
use Rattle.rules.specs.declared.faults.Rule.TheVariants as rule
use Rattle.rules.specs.Module.{Body}
use Rattle.rules.specs.Kinds.{CallResult}
use Rattle.rules.specs.Items.{numbers}
use Rattle.rules.specs.Fault.{Test, first, earlier}
use Rattle.rules.specs.Verdict.{CallsEarlier}
use Rattle.rules.proofs.Passing.{none_from_hold, hold_from_below}
use Rattle.rules.proofs.Firsts.{passed}
use Rattle.node.specs.Nodes.{Node, operands_at}
use Rattle.tables.specs.Tables.{records_of, callees, function_node}
use Rattle.sealing.specs.Seal.{calls, call_tests}
use Rattle.sealing.proofs.Promised.{callees_are, results_before}

-- the operands of a function
callees_at : (bodies : List Body) (f : ℕ) (b : Body) → slice_get bodies f ≡ Some b → operands_at (map function_node bodies) f ≡ callees b
callees_at [] f b e = absurd cc
callees_at (c ∷ bodies) zero b e = ap callees (same_Some c b e)
callees_at (c ∷ bodies) (suc f) b e = callees_at bodies f b e

-- the fault of the first that is not earlier is that of the first call that is not
pub calls_told : (bodies : List Body) (nodes : List Node) → nodes ≡ map function_node bodies → (f : ℕ) (b : Body) → slice_get bodies f ≡ Some b → CallsEarlier f b → first (map (earlier rule.SealedEarlier table.Functions f b.opener.place) (operands_at nodes f)) ≡ first (call_tests f b)
calls_told bodies nodes is f b e h =
    let test : ℕ → Test = earlier rule.SealedEarlier table.Functions f b.opener.place in
    let results = numbers table.Functions (flat_map handles_of (records_of CallResult b.expressions)) in
    ap (λ ns. first (map test (operands_at ns f))) is
    ∙ ap (λ l. first (map test l)) (callees_at bodies f b e ∙ callees_are b)
    ∙ ap first (map-append test results (calls b))
    ∙ passed (map test results) (map test (calls b)) (none_from_hold (map test results) (hold_from_below rule.SealedEarlier table.Functions f b.opener.place results (results_before f b h)))
