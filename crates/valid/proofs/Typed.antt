-- The tests of a type: of its base or members, and of its size.
use Rattle.std.proofs.Common.{◌≡◌, ℕ, zero, suc, ◌+◌, List, [], ◌∷◌, map, drop, Some, None, sym, ap, ◌∙◌, arith}
use Rattle.std.specs.List.{flat_map, slice_get}
use Rattle.std.specs.Option.{option_or}
use Rattle.std.proofs.lemmas.Option.{same_Some}
use Rattle.ir.specs.declared.handle.Table.{Table}
use Rattle.rules.specs.declared.faults.Rule.TheVariants as rule
use Rattle.rules.specs.declared.faults.Fault.{Fault}
use Rattle.rules.specs.Module.{Item, Module}
use Rattle.rules.specs.Items.{handles, numbers, pending_of}
use Rattle.rules.specs.Fault.{first, earlier}
use Rattle.rules.specs.Check.{base_tests}
use Rattle.rules.specs.Once.{inits, met_after, pending_once, type_once, types_once}
use Rattle.rules.proofs.Firsts.{first_append, passed, stopped}
use Rattle.node.specs.Nodes.{Node, operands_at}
use Rattle.tables.specs.Tables.{node_of}

-- the operands of an item of a table
pub operands_are : (t : Table) (items : List Item) (n : ℕ) (i : Item) → slice_get items n ≡ Some i → operands_at (map (node_of t) items) n ≡ numbers t (handles i)
operands_are t [] n i e = absurd cc
operands_are t (x ∷ items) zero i e = ap (λ y. numbers t (handles y)) (same_Some x i e)
operands_are t (x ∷ items) (suc n) i e = operands_are t items n i e

-- the tests of an item's operands, as its node has them
pub told : (t : Table) (items : List Item) (nodes : List Node) → nodes ≡ map (node_of t) items → (n : ℕ) (i : Item) → slice_get items n ≡ Some i → first (map (earlier rule.Earlier t n i.place) (operands_at nodes n)) ≡ first (map (earlier rule.Earlier t n i.place) (numbers t (handles i)))
told t items nodes is n i here = ap (λ l. first (map (earlier rule.Earlier t n i.place) l)) (ap (λ ns. operands_at ns n) is ∙ operands_are t items n i here)

pub type_parts : (m : Module) (met n : ℕ) (i : Item) → first (type_once m met n i) ≡ option_or (first (base_tests n i)) (first (flat_map (pending_once m met n i.place) (pending_of i)))
type_parts m met n i = first_append (base_tests n i) (flat_map (pending_once m met n i.place) (pending_of i))

-- the item that is next among those that are left
pub here_of : {X : Type 0} (all : List X) (n : ℕ) (left rest : List X) (i : X) → left ≡ drop n all → left ≡ i ∷ rest → (slice_get all n ≡ Some i) × (rest ≡ drop (n + 1) all)
here_of [] zero left rest i d e = let z : [] ≡ i ∷ rest = sym d ∙ e in absurd cc
here_of [] (suc n) left rest i d e = let z : [] ≡ i ∷ rest = sym d ∙ e in absurd cc
here_of (x ∷ all) zero left rest i d e = let z : x ∷ all ≡ i ∷ rest = sym d ∙ e in (cc, cc)
here_of (x ∷ all) (suc n) left rest i d e = let p = here_of all n left rest i d e in let later : suc (n + 1) ≡ suc n + 1 = omega arith in (p.0, p.1 ∙ ap (λ k. drop k (x ∷ all)) later)

-- a type whose tests pass, and one with a fault
module _ (m : Module) (met n : ℕ) (i : Item) (left rest : List Item) (is : left ≡ i ∷ rest) where
  pub type_passed : first (type_once m met n i) ≡ None → first (types_once m met n left) ≡ first (types_once m (met_after met (inits m i)) (suc n) rest)
  type_passed none = ap (λ l. first (types_once m met n l)) is ∙ passed (type_once m met n i) (types_once m (met_after met (inits m i)) (suc n) rest) none

  pub type_stopped : (f : Fault) → first (type_once m met n i) ≡ Some f → first (types_once m met n left) ≡ Some f
  type_stopped f some = ap (λ l. first (types_once m met n l)) is ∙ stopped (type_once m met n i) (types_once m (met_after met (inits m i)) (suc n) rest) f some
