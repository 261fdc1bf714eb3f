use Rattle.std.proofs.Common.{◌≡◌, ℕ, List, [], ◌∷◌, length, Some, eqb, false, fold, refl, ◌∙◌, rules, tests}
use Rattle.std.proofs.lemmas.Iterator.{YieldsList-from_slice}
use Rattle.std.proofs.lemmas.Iterator.Consumers.{fold_from_yields_List}
use Rattle.command.specs.Numbers.{digit_more, number_in}
use Rattle.command.proofs.read_number.Goals as goal

fold_digits : (w : List ℕ) → false ≡ eqb (length w) 0 → fold digit_more (Some 0) w ≡ number_in w
fold_digits [] e = cc
fold_digits (b ∷ w) e = refl

pub returns : goal.returns
returns c =
    fold_from_yields_List _ digit_more (Some 0) c.fold.result c.fold.ensures.ran (YieldsList-from_slice _ c.iter.ensures.rest) (λ a x b q k. search (rules, tests)) ∙
    fold_digits _ c.if-is_empty.ensures
