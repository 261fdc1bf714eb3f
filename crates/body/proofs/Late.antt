-- The fault of the first operand that is not earlier.
use Rattle.std.proofs.Common.{◌≡◌, ℕ, Bool, true, false, nat_lt, cond, List, [], ◌∷◌, map, Some, Option, refl, ap, ◌∙◌}
use Rattle.std.specs.Option.{option_map}
use Rattle.ir.specs.declared.handle.Table.{Table}
use Rattle.rules.specs.declared.faults.Rule.{Rule}
use Rattle.rules.specs.declared.faults.Fault.{Fault}
use Rattle.rules.specs.Fault.{first, earlier}
use Rattle.node.specs.Late.{first_late}

module _ (broken : Rule) (t : Table) (item place : ℕ) where
  abbrev pub late_fault : ℕ → Fault
  late_fault x = (earlier broken t item place x).fault

  late_cond : (b : Bool) (o : Option ℕ) (x : ℕ) → cond b (option_map late_fault o) (Some (late_fault x)) ≡ option_map late_fault (cond b o (Some x))
  late_cond true o x = refl
  late_cond false o x = refl

  pub late_first : (xs : List ℕ) → first (map (earlier broken t item place) xs) ≡ option_map late_fault (first_late item xs)
  late_first [] = refl
  late_first (x ∷ xs) = ap (λ o. cond (nat_lt x item) o (Some (late_fault x))) (late_first xs) ∙ late_cond (nat_lt x item) (first_late item xs) x
