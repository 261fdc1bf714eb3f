-- The end of an image.
use Rattle.std.proofs.Common.{◌≡◌, ℕ, List, [], Ok, ap, ◌∙◌}
use Rattle.records.specs.Image.{split}
use Rattle.records.proofs.Cutting.{split_none}
use Rattle.rules.specs.Module.{Record}
use Rattle.images.specs.Putting.{put_all}

-- nothing is left of it to be put
pub put_none : (room places : ℕ) (m : List Record) (rest : List ℕ) → rest ≡ [] → put_all room places m (split rest) ≡ (Ok tt, m)
put_none room places m rest none = ap (λ i. put_all room places m (split i)) none ∙ ap (put_all room places m) split_none
