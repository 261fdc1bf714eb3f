-- An item that is the first of those from a number on.
use Rattle.std.proofs.Common.{◌≡◌, ℕ, suc, ◌+◌, List, ◌∷◌, map, drop, ap, ◌∙◌, arith}
use Rattle.std.specs.Option.{option_or}
use Rattle.std.proofs.lemmas.List.{drop-map}
use Rattle.ir.specs.declared.handle.Table.{Table}
use Rattle.rules.specs.Module.{Item}
use Rattle.rules.specs.Items.{handles, numbers}
use Rattle.rules.specs.Fault.{Test, first, numbered_from}
use Rattle.rules.proofs.Firsts.{numbered_first}
use Rattle.node.specs.Nodes.{Node, operands_at}
use Rattle.tables.specs.Tables.{node_of}
use Rattle.tables.proofs.Going.{some_at, behind}

module _ (all rest : List Item) (n : ℕ) (i : Item) (here : drop n all ≡ i ∷ rest) where
  -- its operands in the table of all
  pub operands_numbered : (t : Table) (nodes : List Node) → nodes ≡ map (node_of t) all → operands_at nodes n ≡ numbers t (handles i)
  operands_numbered t nodes same =
      let at = some_at nodes (map (node_of t) rest) n (node_of t i) (ap (drop n) same ∙ drop-map (node_of t) n all ∙ ap (map (node_of t)) here) in
      rw at

  -- the fault of its tests, or that of the later items
  pub drop_first : (tests : ℕ → Item → List Test) (m : ℕ) → m ≡ n + 1 → first (numbered_from tests n (drop n all)) ≡ option_or (first (tests n i)) (first (numbered_from tests m (drop m all)))
  drop_first tests m next =
      let more : suc n ≡ m = omega arith in
      let left : n + 1 ≡ m = omega arith in
      numbered_first tests n i (drop n all) rest here
      ∙ ap (λ l. option_or (first (tests n i)) (first (numbered_from tests (suc n) l))) (behind all rest n i here ∙ ap (λ k. drop k all) left)
      ∙ ap (λ k. option_or (first (tests n i)) (first (numbered_from tests k (drop m all)))) more
