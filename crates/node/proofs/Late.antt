-- The first operand that is not earlier, operand by operand and item by item.
use Rattle.std.proofs.Common.{◌≡◌, ℕ, zero, suc, ◌+◌, ◌<◌, ◌≤◌, nat_lt, cond, List, [], ◌∷◌, length, drop, Some, None, sym, ap, ◌∙◌, arith}
use Rattle.std.specs.List.{slice_get}
use Rattle.std.proofs.lemmas.Bool.{cond-true, cond-false, lt-ltb, le-ltb}
use Rattle.node.specs.Nodes.{Node, operands_at}
use Rattle.node.specs.Late.{first_late, late_or, first_late_from}

late_at : (item : ℕ) (xs : List ℕ) (k x : ℕ) → slice_get xs k ≡ Some x → first_late item (drop k xs) ≡ cond (nat_lt x item) (first_late item (drop (k + 1) xs)) (Some x)
late_at item [] k x e = absurd cc
late_at item (y ∷ xs) zero x e = cc
late_at item (y ∷ xs) (suc k) x e = let next : suc k + 1 ≡ suc (k + 1) = omega arith in late_at item xs k x e ∙ ap (λ j. cond (nat_lt x item) (first_late item (drop j (y ∷ xs))) (Some x)) (sym next)

module _ (item : ℕ) (xs : List ℕ) (k x : ℕ) (e : slice_get xs k ≡ Some x) where
  -- an operand that is earlier is passed, and any other is the answer
  pub late_pass : x < item → first_late item (drop k xs) ≡ first_late item (drop (k + 1) xs)
  late_pass l = late_at item xs k x e ∙ cond-true _ _ _ (lt-ltb x item l)

  pub late_found : item ≤ x → first_late item (drop k xs) ≡ Some x
  late_found l = late_at item xs k x e ∙ cond-false _ _ _ (le-ltb x item l)

-- of the nodes from one on: those of its own operands, or those of the later nodes
nodes_at : (n : ℕ) (nodes : List Node) (k : ℕ) → k < length nodes → first_late_from (n + k) (drop k nodes) ≡ late_or (n + k) (first_late (n + k) (operands_at nodes k)) (first_late_from (n + (k + 1)) (drop (k + 1) nodes))
nodes_at n [] k l = absurd (omega arith)
nodes_at n (x ∷ nodes) zero l = let e : suc (n + 0) ≡ n + 1 = omega arith in ap (λ j. late_or (n + 0) (first_late (n + 0) x.operands) (first_late_from j nodes)) e
nodes_at n (x ∷ nodes) (suc k) l =
    let e : suc n + k ≡ n + suc k = omega arith in
    let f : suc n + (k + 1) ≡ n + (suc k + 1) = omega arith in
    let next : suc k + 1 ≡ suc (k + 1) = omega arith in
    ap (λ j. first_late_from j (drop k nodes)) (sym e)
    ∙ nodes_at (suc n) nodes k (omega arith)
    ∙ ap (λ j. late_or j (first_late j (operands_at nodes k)) (first_late_from (suc n + (k + 1)) (drop (k + 1) nodes))) e
    ∙ ap (λ j. late_or (n + suc k) (first_late (n + suc k) (operands_at nodes k)) (first_late_from j (drop (k + 1) nodes))) f
    ∙ ap (λ j. late_or (n + suc k) (first_late (n + suc k) (operands_at nodes k)) (first_late_from (n + (suc k + 1)) (drop j (x ∷ nodes)))) (sym next)

module _ (nodes : List Node) (k : ℕ) (l : k < length nodes) where
  node_at : first_late_from k (drop k nodes) ≡ late_or k (first_late k (operands_at nodes k)) (first_late_from (k + 1) (drop (k + 1) nodes))
  node_at =
      let z : 0 + k ≡ k = omega arith in
      let y : 0 + (k + 1) ≡ k + 1 = omega arith in
      let p = nodes_at 0 nodes k l in
      simp (z, y) at p

  -- an item whose operands are earlier is passed, and of any other the first is the answer
  pub item_pass : first_late k (operands_at nodes k) ≡ None → first_late_from k (drop k nodes) ≡ first_late_from (k + 1) (drop (k + 1) nodes)
  item_pass none = node_at ∙ ap (λ o. late_or k o (first_late_from (k + 1) (drop (k + 1) nodes))) none

  pub item_found : (x : ℕ) → first_late k (operands_at nodes k) ≡ Some x → first_late_from k (drop k nodes) ≡ Some (record { item = k; operand = x })
  item_found x some = node_at ∙ ap (λ o. late_or k o (first_late_from (k + 1) (drop (k + 1) nodes))) some
