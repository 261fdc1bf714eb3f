-- Tests, and the fault of the first one that fails.
use Rattle.std.specs.Prelude.{ℕ, suc, ◌-◌, Bool, cond, ◌&&◌, ◌||◌, List, [], ◌∷◌, ◌++◌, map, Some, None, Option, ◌==◌, nat_lt}
use Rattle.ir.specs.declared.handle.Table.{Table}
use Rattle.ir.specs.declared.handle.Table.TheVariants as table
use Rattle.ir.specs.declared.handle.Handle.{Handle}
use Rattle.ir.specs.Handle.{table_of, index_of}
use Rattle.records.specs.Handles.{handles_of}
use Rattle.rules.specs.declared.faults.Rule.{Rule}
use Rattle.rules.specs.declared.faults.Rule.TheVariants as rule
use Rattle.rules.specs.declared.faults.FaultKind.{FaultKind}
use Rattle.rules.specs.declared.faults.FaultKind.TheVariants as kind
use Rattle.rules.specs.declared.faults.Fault.{Fault}
use Rattle.rules.specs.declared.faults.Rejection.{Rejection}
use Rattle.rules.specs.declared.faults.Rejection.TheVariants.{Unfinished, Faulty}
use Rattle.rules.specs.declared.sizes.Sizes.{Sizes}
use Rattle.rules.specs.Module.{Item}
use Rattle.rules.specs.Sizes.{size_in}

-- the number of the refusal of each rule
abbrev pub rule_number : Rule → ℕ
rule_number rule.Inside = 8
rule_number rule.Earlier = 9
rule_number rule.Range = 10
rule_number rule.Placed = 11
rule_number rule.SealedInside = 12
rule_number rule.SealedEarlier = 13

-- the number of each kind of fault
abbrev pub kind_number : FaultKind → ℕ
kind_number kind.Type = 1
kind_number kind.Constant = 2
kind_number kind.Override = 3
kind_number kind.GlobalVariable = 4
kind_number kind.LocalVariable = 5
kind_number kind.Expression = 6
kind_number kind.Function = 7
kind_number kind.Argument = 8
kind_number kind.DiagnosticFilterNode = 9

-- what the numbers of a table's items count; no handle names an entry point
abbrev pub fault_kind : Table → FaultKind
fault_kind table.Types = kind.Type
fault_kind table.Constants = kind.Constant
fault_kind table.Overrides = kind.Override
fault_kind table.GlobalVariables = kind.GlobalVariable
fault_kind table.LocalVariables = kind.LocalVariable
fault_kind table.Expressions = kind.Expression
fault_kind table.Functions = kind.Function
fault_kind table.Filters = kind.DiagnosticFilterNode
fault_kind table.EntryPoints = kind.Function

-- the five numbers of a rejection: those of an unfinished draft are 7 and four zeros
abbrev pub refusal_number : Rejection → ℕ
refusal_number Unfinished = 7
refusal_number (Faulty f) = rule_number f.rule

abbrev pub refusal_kind : Rejection → ℕ
refusal_kind Unfinished = 0
refusal_kind (Faulty f) = kind_number f.kind

abbrev pub refusal_first : Rejection → ℕ
refusal_first Unfinished = 0
refusal_first (Faulty f) = f.first

abbrev pub refusal_second : Rejection → ℕ
refusal_second Unfinished = 0
refusal_second (Faulty f) = f.second

abbrev pub refusal_place : Rejection → ℕ
refusal_place Unfinished = 0
refusal_place (Faulty f) = f.place

-- whether the test passes, and the fault if it does not
pub record Test : Type 0 where
  pub passes : Bool
  pub fault : Fault

-- the fault of the first test that fails
abbrev pub first : List Test → Option Fault
first [] = None
first (t ∷ ts) = cond t.passes (first ts) (Some t.fault)

-- inside: below the number of items of its table (refusal 8)
abbrev pub inside : Rule → Sizes → ℕ → Handle → Test
inside broken sizes place h =
    record {
      passes = nat_lt (index_of h) (size_in sizes (table_of h));
      fault = record { rule = broken; kind = fault_kind (table_of h); first = index_of h; second = 0; place = place };
    }

-- earlier: strictly below the number of its holder, the subject (refusal 9)
abbrev pub earlier : Rule → Table → ℕ → ℕ → ℕ → Test
earlier broken t subject place named =
    record {
      passes = nat_lt named subject;
      fault = record { rule = broken; kind = fault_kind t; first = subject; second = named; place = place };
    }

-- a range of expressions is empty, or starts before its end and ends inside (refusal 10)
abbrev pub range : ℕ → ℕ → ℕ → ℕ → Test
range count place start end =
    record {
      passes = start == end || (nat_lt start end && nat_lt (end - 1) count);
      fault = record { rule = rule.Range; kind = kind.Expression; first = start; second = end; place = place };
    }

-- these handles of a record at a place are inside
abbrev pub all_inside : Rule → Sizes → ℕ → List Handle → List Test
all_inside broken sizes place hs = map (inside broken sizes place) hs

-- every handle of an item's own record is inside
abbrev pub own_inside : Rule → Sizes → Item → List Test
own_inside broken sizes i = all_inside broken sizes i.place (handles_of i.bytes)

-- the tests of each item of a list, told its number, counted from n
abbrev pub numbered_from : {X : Type 0} → (ℕ → X → List Test) → ℕ → List X → List Test
numbered_from tests n [] = []
numbered_from tests n (x ∷ xs) = tests n x ++ numbered_from tests (suc n) xs

abbrev pub numbered : {X : Type 0} → (ℕ → X → List Test) → List X → List Test
numbered tests xs = numbered_from tests 0 xs
