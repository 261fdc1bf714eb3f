-- The items of the four tables with their ranks.
use Rattle.std.proofs.Common.{◌≡◌, ℕ, suc, ◌≤◌, List, [], ◌∷◌, ◌++◌, map, length, length-append, sym, ap, ◌∙◌, arith, append_assoc}
use Rattle.std.proofs.lemmas.List.{map-append, length-map}
use Rattle.rules.specs.Module.{Module}
use Rattle.promises.specs.Rows.{RowItem, counted, row_items}
use Rattle.module_row.specs.Ranked.{with_rank, with_ranks}
use Rattle.module_row.proofs.Counted.{counted_more, counted_size}

module _ (m : Module) where
  -- one more item of a table
  pub pushed : {X : Type 0} (shown : X → ℕ × RowItem) (before : List (ℕ × RowItem)) (f : ℕ → RowItem) (k : ℕ) (xs : List X) (x : X) → map shown xs ≡ before ++ with_ranks m f k → shown x ≡ with_rank m (f k) → map shown (xs ++ x ∷ []) ≡ before ++ with_ranks m f (suc k)
  pushed shown before f k xs x e s =
      map-append shown xs (x ∷ [])
      ∙ ap (λ l. l ++ shown x ∷ []) e
      ∙ append_assoc before (with_ranks m f k) (shown x ∷ [])
      ∙ ap (λ p. before ++ (with_ranks m f k ++ p ∷ [])) s
      ∙ ap (λ l. before ++ l) (sym (map-append (with_rank m) (counted f 0 k) (f k ∷ [])) ∙ ap (map (with_rank m)) (counted_more f k))

  -- there are as many as have been pushed
  pub so_many : {X : Type 0} (shown : X → ℕ × RowItem) (before : List (ℕ × RowItem)) (f : ℕ → RowItem) (k : ℕ) (xs : List X) → map shown xs ≡ before ++ with_ranks m f k → k ≤ length xs
  so_many shown before f k xs e =
      let a = ap length e in
      let b : length (map shown xs) ≡ length xs = length-map _ _ in
      let c = length-append before (with_ranks m f k) in
      let d : length (with_ranks m f k) ≡ length (counted f 0 k) = length-map _ _ in
      let s = counted_size f 0 k in
      omega arith

  -- the four tables one after the other
  pub all_ranked : ((with_ranks m RowItem.type (length m.types) ++ with_ranks m RowItem.override (length m.overrides)) ++ with_ranks m RowItem.constant (length m.constants)) ++ with_ranks m RowItem.expression (length m.expressions) ≡ map (with_rank m) (row_items m)
  all_ranked =
      let types = counted RowItem.type 0 (length m.types) in
      let overrides = counted RowItem.override 0 (length m.overrides) in
      let constants = counted RowItem.constant 0 (length m.constants) in
      let expressions = counted RowItem.expression 0 (length m.expressions) in
      let f = map (with_rank m) in
      sym
      (map-append (with_rank m) types (overrides ++ (constants ++ expressions))
      ∙ ap (λ l. f types ++ l) (map-append (with_rank m) overrides (constants ++ expressions) ∙ ap (λ l. f overrides ++ l) (map-append (with_rank m) constants expressions))
      ∙ sym (append_assoc (f types) (f overrides) (f constants ++ f expressions))
      ∙ sym (append_assoc (f types ++ f overrides) (f constants) (f expressions)))
