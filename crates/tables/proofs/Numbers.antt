-- What the iterators over operands give, and what they have left.
use Rattle.std.proofs.Common.{◌≡◌, ℕ, Bool, true, false, cond, List, [], ◌∷◌, ◌++◌, Some, None, Option, MatchOption, sym, refl, ap, ◌∙◌}
use Rattle.std.specs.List.{flat_map}
use Rattle.ir.specs.declared.handle.Table.{Table}
use Rattle.ir.specs.declared.handle.Handle.{Handle}
use Rattle.ir.specs.Handle.{index_of}
use Rattle.records.specs.declared.image.Record.{Record}
use Rattle.records.specs.Handles.{handles_of}
use Rattle.records.specs.Image.{split, Cut}
use Rattle.records.proofs.Cutting.{split_none}
use Rattle.rules.specs.Module.{Record as Bytes}
use Rattle.rules.specs.Items.{is_of, numbers}

-- a record cut off is the first of those that are left
pub cut_steps : (r : Option Record) (s t : List ℕ) → MatchOption r ((s ≡ []) × (t ≡ [])) (λ x. Cut s x.bytes.now t) → MatchOption r ((split s ≡ []) × (split t ≡ [])) (λ x. split s ≡ x.bytes.now ∷ split t)
cut_steps None s t h = (ap split h.0 ∙ split_none, ap split h.1 ∙ split_none)
cut_steps (Some x) s t h = h.first

joined : (b : Bool) (n : ℕ) (xs ys all : List ℕ) → all ≡ xs ++ ys → cond b (n ∷ all) all ≡ cond b (n ∷ xs) xs ++ ys
joined true n xs ys all e = ap (λ l. n ∷ l) e
joined false n xs ys all e = e

-- the numbers that handles name, part by part
pub numbers_append : (t : Table) (xs ys : List Handle) → numbers t (xs ++ ys) ≡ numbers t xs ++ numbers t ys
numbers_append t [] ys = refl
numbers_append t (h ∷ xs) ys = joined (is_of t h) (index_of h) (numbers t xs) (numbers t ys) _ (numbers_append t xs ys)

module _ (t : Table) (front rest : List Handle) where
  -- a number from the handles at the front
  pub number_found : (n : ℕ) (left : List Handle) → numbers t front ≡ n ∷ numbers t left → numbers t (front ++ rest) ≡ n ∷ numbers t (left ++ rest)
  number_found n left e = numbers_append t front rest ∙ ap (λ l. l ++ numbers t rest) e ∙ ap (λ l. n ∷ l) (sym (numbers_append t left rest))

-- none there: those of the next record are looked at
pub next_looked : (t : Table) (front hs : List Handle) (others rest : List Bytes) (r : Bytes) → numbers t front ≡ [] → others ≡ r ∷ rest → hs ≡ handles_of r → numbers t (hs ++ flat_map handles_of rest) ≡ numbers t (front ++ flat_map handles_of others)
next_looked t front hs others rest r none next e =
    ap (λ l. numbers t (l ++ flat_map handles_of rest)) e
    ∙ ap (λ l. numbers t (flat_map handles_of l)) (sym next)
    ∙ ap (λ l. l ++ numbers t (flat_map handles_of others)) (sym none)
    ∙ sym (numbers_append t front (flat_map handles_of others))
