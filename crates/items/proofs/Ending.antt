-- The place of the record that ends a body, place by place.
use Rattle.std.proofs.Common.{◌≡◌, ℕ, ◌+◌, ◌≤◌, true, false, not, cond, List, [], length, drop, Some, ap, ◌∙◌, arith}
use Rattle.std.specs.List.{slice_get, prefix_len}
use Rattle.std.proofs.lemmas.List.{drop_more}
use Rattle.std.proofs.lemmas.List.Sums.{prefix_len-drop_all}
use Rattle.std.proofs.lemmas.Option.{slice_get_within, get_or_from_slice_get}
use Rattle.rules.specs.Module.{Record}
use Rattle.items.specs.Whole.{ends, ending_from}

pub ending_past : (m : List Record) (p : ℕ) → length m ≤ p → ending_from m p ≡ p
ending_past m p l = let n = prefix_len-drop_all (λ r. not (ends r)) m p l in omega arith

module _ (m : List Record) (p : ℕ) (r : Record) (e : slice_get m p ≡ Some r) where
  ending_at : prefix_len (λ x. not (ends x)) (drop p m) ≡ cond (not (ends r)) (1 + prefix_len (λ x. not (ends x)) (drop (p + 1) m)) 0
  ending_at =
      ap (prefix_len (λ x. not (ends x))) (drop_more m p [] (slice_get_within m p r e))
      ∙ ap (λ y. cond (not (ends y)) (1 + prefix_len (λ x. not (ends x)) (drop (p + 1) m)) 0) (get_or_from_slice_get m p r [] e)

  pub ending_here : ends r ≡ true → ending_from m p ≡ p
  ending_here t = let n = ending_at ∙ ap (λ b. cond (not b) (1 + prefix_len (λ x. not (ends x)) (drop (p + 1) m)) 0) t in omega arith

  pub ending_later : ends r ≡ false → ending_from m p ≡ ending_from m (p + 1)
  ending_later t = let n = ending_at ∙ ap (λ b. cond (not b) (1 + prefix_len (λ x. not (ends x)) (drop (p + 1) m)) 0) t in omega arith
