-- What is answered for an image, in memory of so many bytes and slots.
use Rattle.std.specs.Prelude.{ℕ, List, [], Some, None, Option, Ok, Err, Result}
use Rattle.std.specs.Option.{option_map}
use Rattle.records.specs.Image.{split}
use Rattle.rules.specs.Module.{Record}
use Rattle.rules.specs.declared.faults.Rejection.{Rejection}
use Rattle.rules.specs.Fault.{refusal_number as check_number, refusal_kind, refusal_first, refusal_second, refusal_place}
use Rattle.draft.specs.declared.refusal.Refusal.{Refusal}
use Rattle.draft.specs.State.{State, state}
use Rattle.draft.specs.Admitted.{refusal_number as put_number}
use Rattle.valid.specs.Check.{verdict_of}
use Rattle.sealing.specs.Seal.{seal_of}
use Rattle.images.specs.declared.question.Question.{Question}
use Rattle.images.specs.declared.question.Question.TheVariants.{Check, Seal}
use Rattle.images.specs.declared.refusal.ImageRefusal.{ImageRefusal}
use Rattle.images.specs.declared.refusal.ImageRefusal.TheVariants.{Put, Module}
use Rattle.images.specs.declared.verdict.Verdict.{Verdict}
use Rattle.images.specs.Putting.{put_all}

-- what a question answers for a draft
abbrev pub asked : Question → State → Option Rejection
asked Check s = verdict_of s
asked Seal s = seal_of s

-- the refusal of a put, or else what the question answers for the module that the kept records make
abbrev pub refusal_after : Question → Result Unit Refusal → List Record → Option ImageRefusal
refusal_after q (Err e) m = Some (Put e)
refusal_after q (Ok u) m = option_map Module (asked q (state m))

-- the five numbers: those of a refused put are its own and four zeros
abbrev pub numbers : Option ImageRefusal → Verdict
numbers None = record { number = 0; kind = 0; first = 0; second = 0; position = 0 }
numbers (Some (Put e)) = record { number = put_number e; kind = 0; first = 0; second = 0; position = 0 }
numbers (Some (Module e)) = record { number = check_number e; kind = refusal_kind e; first = refusal_first e; second = refusal_second e; position = refusal_place e }

module _ (q : Question) (room places : ℕ) (image : List ℕ) where
  -- why the image is refused, if it is: its records are put on a new draft, up to the first refusal, and then the question is asked of what they make
  abbrev pub refusal_in : Option ImageRefusal
  refusal_in = refusal_after q (put_all room places [] (split image)).0 (put_all room places [] (split image)).1

  -- by numbers
  abbrev pub verdict_in : Verdict
  verdict_in = numbers refusal_in
