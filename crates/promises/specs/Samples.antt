-- Small drafts, record by record, with what put, the check and sealing answer.
use Rattle.std.specs.Prelude.{◌≡◌, ℕ, List, [], ◌∷◌, Some, None, Ok, fold, Option}
use Rattle.std.specs.List.{flat_map}
use Rattle.std.specs.Option.{option_map}
use Rattle.ir.specs.declared.handle.Table.TheVariants as table
use Rattle.ir.specs.Handle.{named}
use Rattle.rules.specs.declared.faults.Rejection.{Rejection}
use Rattle.rules.specs.declared.faults.Rejection.TheVariants.{Faulty}
use Rattle.rules.specs.Module.{Record, Module}
use Rattle.rules.specs.Sizes.{sizes}
use Rattle.rules.specs.Fault.{refusal_number, refusal_kind, refusal_first, refusal_second, refusal_place, numbered}
use Rattle.rules.specs.Check.{check}
use Rattle.rules.specs.Verdict.{AllHold}
use Rattle.draft.specs.State.{state}
use Rattle.arena.specs.Put.{put_def}
use Rattle.sealing.specs.Seal.{global_tests, inner_then_other_tests, seal_of}
use Rattle.promises.specs.Rows.{RowItem, IsModuleRow, row}

-- a word, low byte first
abbrev u32 : ℕ → List ℕ
u32 n = n ∷ 0 ∷ 0 ∷ 0 ∷ []

abbrev absent : List ℕ
absent = 255 ∷ 255 ∷ 255 ∷ 255 ∷ []

-- the byte of a kind, and then its fields
abbrev pub of_kind : ℕ → List (List ℕ) → Record
of_kind k parts = k ∷ flat_map (λ part. part) parts

-- records of these kinds, with marks 0 but for a Scalar's name
abbrev pub scalar : ℕ → Record
scalar name = of_kind 16 (u32 name ∷ u32 0 ∷ [])

-- an array of type 0 whose size is override 0
abbrev pub array : Record
array = of_kind 23 (u32 0 ∷ u32 0 ∷ (1 ∷ []) ∷ u32 0 ∷ u32 4 ∷ [])

-- an override and a constant of a type, with an init
abbrev pub override : ℕ → ℕ → Record
override ty init = of_kind 3 (u32 0 ∷ u32 0 ∷ u32 ty ∷ u32 init ∷ [])

abbrev pub constant : ℕ → ℕ → Record
constant ty init = of_kind 4 (u32 0 ∷ u32 ty ∷ u32 init ∷ [])

abbrev pub literal : Record
literal = of_kind 64 (u32 0 ∷ [])

abbrev pub constant_value : ℕ → Record
constant_value c = of_kind 65 (u32 c ∷ [])

abbrev pub zero_value : ℕ → Record
zero_value ty = of_kind 67 (u32 ty ∷ [])

abbrev pub local_variable : ℕ → Record
local_variable v = of_kind 75 (u32 v ∷ [])

-- of image 0 and sampler 1 at coordinate 2, with gradients 3 and y
abbrev pub image_sample : ℕ → Record
image_sample y = of_kind 77 (u32 0 ∷ u32 1 ∷ u32 0 ∷ u32 2 ∷ absent ∷ absent ∷ (4 ∷ []) ∷ u32 3 ∷ u32 y ∷ absent ∷ (0 ∷ []) ∷ [])

abbrev pub binary : ℕ → ℕ → Record
binary left right = of_kind 81 (u32 0 ∷ u32 left ∷ u32 right ∷ [])

abbrev pub call_result : ℕ → Record
call_result f = of_kind 87 (u32 f ∷ [])

abbrev pub emit : ℕ → ℕ → Record
emit start end = of_kind 128 (u32 start ∷ u32 end ∷ [])

abbrev pub call : ℕ → Record
call f = of_kind 144 (u32 f ∷ absent ∷ [])

abbrev pub function : Record
function = of_kind 11 (u32 0 ∷ absent ∷ [])

-- without sizes, leaf, mesh and payloads
abbrev pub entry_point : Record
entry_point =
    of_kind 12
    (u32 0 ∷ u32 0 ∷ u32 0 ∷ u32 0 ∷ absent ∷ absent ∷ absent ∷ absent
    ∷ (0 ∷ []) ∷ absent ∷ absent ∷ absent ∷ absent ∷ absent ∷ absent ∷ absent ∷ absent
    ∷ absent ∷ absent ∷ [])

abbrev pub end_function : Record
end_function = of_kind 31 []

-- the kept records after these are put, one by one, on a new draft with 1000 bytes and 100 slots
abbrev pub kept : List Record → List Record
kept rs = fold (λ m r. (put_def 1000 100 m r).1) [] rs

-- the module that they make
abbrev pub module_of : List Record → Module
module_of rs = (state (kept rs)).built

-- the five numbers of a rejection, none where there is none
abbrev pub numbers_of : Option Rejection → List ℕ
numbers_of None = []
numbers_of (Some r) = refusal_number r ∷ refusal_kind r ∷ refusal_first r ∷ refusal_second r ∷ refusal_place r ∷ []

abbrev pub accepted : List ℕ
accepted = []

-- put keeps all of them, and the check of their module and the sealing of the draft answer these numbers
pub record Answers (rs : List Record) (checked sealed : List ℕ) : Type 0 where
  pub kept_all : kept rs ≡ rs
  pub check_is : numbers_of (option_map Faulty (check (module_of rs))) ≡ checked
  pub seal_is : numbers_of (seal_of (state (kept rs))) ≡ sealed

-- the size of type 1 is override 0, whose init is expression 0
abbrev pub sized_records : List Record
sized_records = scalar 0 ∷ override 0 0 ∷ array ∷ zero_value 0 ∷ []

-- the size of type 1 is override 0, whose init is expression 1, which is constant 0, which is of type 1
abbrev pub ring_records : List Record
ring_records = scalar 0 ∷ override 0 1 ∷ array ∷ zero_value 0 ∷ constant 1 0 ∷ constant_value 0 ∷ []

-- type 0 is a Scalar in all of them
pub record SmallDrafts : Type 0 where
  -- equal types have one number, and one with another name the next
  pub first_type : (put_def 1000 100 [] (scalar 0)).0 ≡ Ok (Some (named table.Types 0))
  pub same_type : (put_def 1000 100 (kept (scalar 0 ∷ [])) (scalar 0)).0 ≡ Ok (Some (named table.Types 0))
  pub other_type : (put_def 1000 100 (kept (scalar 0 ∷ scalar 0 ∷ [])) (scalar 1)).0 ≡ Ok (Some (named table.Types 1))
  -- in a body without expressions a range that starts where it ends passes, and one that starts after its end does not
  pub empty_range : Answers (scalar 0 ∷ function ∷ emit 5 5 ∷ end_function ∷ []) accepted accepted
  pub turned_range : Answers (scalar 0 ∷ function ∷ emit 1 0 ∷ end_function ∷ []) (10 ∷ 6 ∷ 1 ∷ 0 ∷ 2 ∷ []) (10 ∷ 6 ∷ 1 ∷ 0 ∷ 2 ∷ [])
  -- an ImageSample whose last gradient is itself, or the expression before
  pub own_gradient : Answers (scalar 0 ∷ function ∷ literal ∷ literal ∷ literal ∷ literal ∷ image_sample 4 ∷ end_function ∷ []) (9 ∷ 6 ∷ 4 ∷ 4 ∷ 6 ∷ []) (9 ∷ 6 ∷ 4 ∷ 4 ∷ 6 ∷ [])
  pub earlier_gradient : Answers (scalar 0 ∷ function ∷ literal ∷ literal ∷ literal ∷ literal ∷ image_sample 3 ∷ end_function ∷ []) accepted accepted
  -- the size of type 1 is an override whose init is the zero of type 0, or of type 1
  pub sized : Answers sized_records accepted accepted
  pub sized_by_its_zero : Answers (scalar 0 ∷ override 0 0 ∷ array ∷ zero_value 1 ∷ []) (9 ∷ 1 ∷ 1 ∷ 1 ∷ 2 ∷ []) (9 ∷ 1 ∷ 1 ∷ 1 ∷ 2 ∷ [])
  -- or it is a constant of type 1
  pub sized_by_its_constant : Answers ring_records accepted (13 ∷ 1 ∷ 1 ∷ 1 ∷ 2 ∷ [])
  -- a zero of a type that there is not
  pub no_type : Answers (scalar 0 ∷ zero_value 7 ∷ []) accepted (12 ∷ 1 ∷ 7 ∷ 0 ∷ 1 ∷ [])
  -- a global Binary of itself
  pub own_operand : Answers (scalar 0 ∷ binary 0 0 ∷ []) accepted (13 ∷ 6 ∷ 0 ∷ 0 ∷ 1 ∷ [])
  -- a function that calls itself, one that has a result of itself, and an entry point that has one of a function
  pub own_call : Answers (scalar 0 ∷ function ∷ call 0 ∷ end_function ∷ []) accepted (13 ∷ 7 ∷ 0 ∷ 0 ∷ 1 ∷ [])
  pub own_result : Answers (scalar 0 ∷ function ∷ call_result 0 ∷ call 0 ∷ end_function ∷ []) (9 ∷ 7 ∷ 0 ∷ 0 ∷ 1 ∷ []) (9 ∷ 7 ∷ 0 ∷ 0 ∷ 1 ∷ [])
  pub result_of_function : Answers (scalar 0 ∷ function ∷ end_function ∷ entry_point ∷ call_result 0 ∷ call 0 ∷ end_function ∷ []) accepted accepted
  -- a local variable among the global expressions
  pub global_local : Answers (scalar 0 ∷ local_variable 0 ∷ []) accepted (11 ∷ 6 ∷ 0 ∷ 0 ∷ 1 ∷ [])

-- a row: the type whose size waits for expression 0 stands behind it
abbrev pub SizedRow : Type 0
SizedRow = row (module_of sized_records) ≡ RowItem.type 0 ∷ RowItem.expression 0 ∷ RowItem.override 0 ∷ RowItem.type 1 ∷ []

abbrev pub ring : Module
ring = module_of ring_records

-- without the rule on types whose size waits for an init there need be no row: that rule alone refuses this module
pub record RingHasNoRow : Type 0 where
  pub check_passes : check ring ≡ None
  pub globals_pass : AllHold (numbered (global_tests (sizes ring)) ring.expressions)
  pub others_pass : AllHold (inner_then_other_tests ring)
  pub no_row : (row : List RowItem) → IsModuleRow ring row → ⊥
