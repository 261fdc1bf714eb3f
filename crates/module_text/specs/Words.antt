-- The words that a question and a refusal of a walk print as.
use Rattle.std.specs.Prelude.{ℕ, List, codes}
use Rattle.images.specs.declared.question.Question.{Question}
use Rattle.images.specs.declared.question.Question.TheVariants.{Check, Seal}
use Rattle.walk.specs.declared.walk.WalkRefusal.{WalkRefusal}
use Rattle.walk.specs.declared.walk.WalkRefusal.TheVariants.{NoSuchBody, TooFewPlaces}

-- the word of a question
abbrev pub question_word : Question → List ℕ
question_word Check = codes "check"
question_word Seal = codes "seal"

-- why nothing was walked, in words
abbrev pub refusal_words : WalkRefusal → List ℕ
refusal_words NoSuchBody = codes "no such function or entry point"
refusal_words TooFewPlaces = codes "fewer places than items"
