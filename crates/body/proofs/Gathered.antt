-- The tests of some handles in front of others.
use Rattle.std.proofs.Common.{◌≡◌, ℕ, ◌+◌, ◌<◌, List, ◌++◌, length, get_or, drop, Some, None, ap, ◌∙◌}
use Rattle.std.specs.List.{flat_map}
use Rattle.std.specs.Option.{option_or}
use Rattle.std.proofs.lemmas.List.{map-append, drop_more}
use Rattle.records.specs.Image.{split, Cut}
use Rattle.ir.specs.declared.handle.Handle.{Handle}
use Rattle.rules.specs.declared.faults.Rule.{Rule}
use Rattle.rules.specs.declared.faults.Fault.{Fault}
use Rattle.rules.specs.declared.sizes.Sizes.{Sizes}
use Rattle.rules.specs.Fault.{first, inside, all_inside}
use Rattle.rules.proofs.Firsts.{first_append, passed, stopped}

-- of two lists: the fault of the first, and else that of the second
pub inside_first : (broken : Rule) (sizes : Sizes) (place : ℕ) (hs rest : List Handle) → first (all_inside broken sizes place (hs ++ rest)) ≡ option_or (first (all_inside broken sizes place hs)) (first (all_inside broken sizes place rest))
inside_first broken sizes place hs rest = ap first (map-append (inside broken sizes place) hs rest) ∙ first_append (all_inside broken sizes place hs) (all_inside broken sizes place rest)

module _ (broken : Rule) (sizes : Sizes) (place : ℕ) (hs rest all : List Handle) (is : all ≡ hs ++ rest) where
  parts : all_inside broken sizes place all ≡ all_inside broken sizes place hs ++ all_inside broken sizes place rest
  parts = ap (all_inside broken sizes place) is ∙ map-append (inside broken sizes place) hs rest

  pub handles_passed : first (all_inside broken sizes place hs) ≡ None → first (all_inside broken sizes place all) ≡ first (all_inside broken sizes place rest)
  handles_passed none = ap first parts ∙ passed (all_inside broken sizes place hs) (all_inside broken sizes place rest) none

  pub handles_stopped : (f : Fault) → first (all_inside broken sizes place hs) ≡ Some f → first (all_inside broken sizes place all) ≡ Some f
  handles_stopped f some = ap first parts ∙ stopped (all_inside broken sizes place hs) (all_inside broken sizes place rest) f some

-- of the records that are cut off an image
pub split_first : {A : Type 0} (f : List ℕ → List A) (image front rest : List ℕ) → Cut image front rest → flat_map f (split image) ≡ f front ++ flat_map f (split rest)
split_first f image front rest cut = ap (flat_map f) cut.first

-- and of the fields from one on
pub fields_first : {A : Type 0} (f : ℕ → List A) (fields : List ℕ) (k : ℕ) → k < length fields → flat_map f (drop k fields) ≡ f (get_or fields k 0) ++ flat_map f (drop (k + 1) fields)
fields_first f fields k l = ap (flat_map f) (drop_more fields k 0 l)
