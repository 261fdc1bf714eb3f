-- The rule of a reading, where operands are earlier: the values of the first items depend on those alone.
use Rattle.std.proofs.Common.{◌≡◌, ℕ, zero, suc, ◌+◌, ◌<◌, ◌≤◌, List, [], ◌∷◌, ◌++◌, length, take, set, Some, sym, ap, ◌∙◌, subst, inl, inr, arith}
use Rattle.std.specs.List.{AllByRecursion, slice_get}
use Rattle.std.proofs.lemmas.Bool.{cases_lt}
use Rattle.std.proofs.lemmas.List.{length-take-le}
use Rattle.std.proofs.lemmas.Option.{same_Some, slice_get_within}
use Rattle.node.specs.Nodes.{Node, operand_of, operands_at}
use Rattle.walk.specs.Steps.{Steps}
use Rattle.walk.specs.Rule.{OperandsEarlier, Takes, Makes, Keeps, TheValues}
use Rattle.walk.specs.Made.{MadeAt}
use Rattle.walk.proofs.Places.{got, same_places, one_more, all_at, set_before, set_there, taken_before}

-- the operands of the item with a number
pub operands_here : (nodes : List Node) (item : ℕ) (n : Node) → slice_get nodes item ≡ Some n → operands_at nodes item ≡ n.operands
operands_here [] item n e = absurd cc
operands_here (x ∷ nodes) zero n e = ap (λ m. m.operands) (same_Some x n e)
operands_here (x ∷ nodes) (suc item) n e = operands_here nodes item n e

-- an operand of an item is below the item's number
pub operand_below : (nodes : List Node) → OperandsEarlier nodes → (item : ℕ) → item < length nodes → (place k : ℕ) → operand_of nodes item place ≡ Some k → k < item
operand_below nodes earlier item l place k e =
    let n = got nodes item l in
    all_at (λ j. j < item) n.0.operands place k (earlier item n.0 n.1) (sym (ap (λ ks. slice_get ks place) (operands_here nodes item n.0 n.1)) ∙ e)

-- the same values at the first n places
abbrev pub Agree : {V : Type 0} → ℕ → List V → List V → Type 0
Agree n xs ys = (k : ℕ) → k < n → slice_get xs k ≡ slice_get ys k

module _ {W V : Type 0} (s : Steps W V) where
  -- takes of operands below n come to the same with other values behind them
  pub takes_agree : (n : ℕ) (xs ys : List V) → Agree n xs ys → (w : W) (ks : List ℕ) (x : W) → AllByRecursion (λ k. k < n) ks → Takes s xs w ks x → Takes s ys w ks x
  takes_agree n xs ys same w [] x below t = t
  takes_agree n xs ys same w (k ∷ ks) x below t = (t.0, sym (same k below.0) ∙ t.1, takes_agree n xs ys same (s.take w t.0) ks x below.1 t.2)

  pub makes_agree : (n : ℕ) (xs ys : List V) → Agree n xs ys → (node : Node) (v : V) → AllByRecursion (λ k. k < n) node.operands → Makes s xs node v → Makes s ys node v
  makes_agree n xs ys same node v below m = (m.0, takes_agree n xs ys same (s.start node.bytes) node.operands m.0 below m.1, m.2)

  -- one take more
  takes_push : (xs : List V) (w : W) (ks : List ℕ) (k : ℕ) (v : V) (x : W) → Takes s xs w ks x → slice_get xs k ≡ Some v → Takes s xs w (ks ++ k ∷ []) (s.take x v)
  takes_push xs w [] k v x t e = (v, e, ap (λ y. s.take y v) t)
  takes_push xs w (j ∷ ks) k v x t e = (t.0, t.1, takes_push xs (s.take w t.0) ks k v x t.2 e)

  pub takes_more : (xs : List V) (w : W) (ks : List ℕ) (i k : ℕ) (v : V) (x y : W) → slice_get ks i ≡ Some k → slice_get xs k ≡ Some v → Takes s xs w (take i ks) x → y ≡ s.take x v → Takes s xs w (take (i + 1) ks) y
  takes_more xs w ks i k v x y here is t e = subst (λ js. Takes s xs w js y) (sym (one_more ks i k here)) (subst (λ z. Takes s xs w (take i ks ++ k ∷ []) z) (sym e) (takes_push xs w (take i ks) k v x t is))

  -- takes come to one value
  takes_one : (xs : List V) (w : W) (ks : List ℕ) (x y : W) → Takes s xs w ks x → Takes s xs w ks y → x ≡ y
  takes_one xs w [] x y t u = sym t ∙ u
  takes_one xs w (k ∷ ks) x y t u =
      let same : u.0 ≡ t.0 = same_Some u.0 t.0 (sym u.1 ∙ t.1) in
      takes_one xs (s.take w t.0) ks x y t.2 (subst (λ v. Takes s xs (s.take w v) ks y) same u.2)

  makes_one : (xs : List V) (node : Node) (v u : V) → Makes s xs node v → Makes s xs node u → v ≡ u
  makes_one xs node v u m n = sym m.2 ∙ ap s.finish (takes_one xs (s.start node.bytes) node.operands m.0 n.0 m.1 n.1) ∙ n.2

  -- the values of the first n items are made as the rule says
  abbrev pub Made : List Node → ℕ → List V → Type 0
  Made nodes n values = (k : ℕ) → k < n → (v : V) → slice_get values k ≡ Some v → MadeAt s values nodes k v

  module _ (nodes : List Node) (earlier : OperandsEarlier nodes) where
    -- of two lists that keep the rule, the first values are the same, however many
    agree : (xs ys : List V) → Keeps s nodes xs → Keeps s nodes ys → (n : ℕ) → n ≤ length nodes → Agree n ys xs
    agree xs ys a b zero l k below = absurd (omega arith)
    agree xs ys a b (suc n) l k below =
        elim (cases_lt k n) [
          | inl before ↦ agree xs ys a b n (omega arith) k before
          | inr here ↦
              let at : n ≡ k = omega arith in
              let node = got nodes n (omega arith) in
              let x = got xs n (omega (arith, a.one_each)) in
              let y = got ys n (omega (arith, b.one_each)) in
              let first = agree xs ys a b n (omega arith) in
              let below_n = earlier n node.0 node.1 in
              let made = makes_agree n ys xs first node.0 y.0 below_n (b.each n node.0 y.0 node.1 y.1) in
              let same : y.0 ≡ x.0 = makes_one xs node.0 y.0 x.0 made (a.each n node.0 x.0 node.1 x.1) in
              subst (λ j. slice_get ys j ≡ slice_get xs j) at (y.1 ∙ ap Some same ∙ sym x.1)
        ]

    pub only_one : (xs : List V) → Keeps s nodes xs → (ys : List V) → Keeps s nodes ys → ys ≡ xs
    only_one xs a ys b =
        same_places ys xs (b.one_each ∙ sym a.one_each) (λ k l. agree xs ys a b (length nodes) (omega arith) k (omega (arith, b.one_each)))

    made_by : (n : ℕ) (xs ys : List V) → Agree n xs ys → (k : ℕ) → k ≤ n → (v : V) → MadeAt s xs nodes k v → MadeAt s ys nodes k v
    made_by n xs ys same k l v m node e = makes_agree k xs ys (λ j below. same j (omega arith)) node v (earlier k node e) (m node e)

    -- the value of one item more
    pub made_next : (n : ℕ) (values : List V) (v : V) → n < length values → Made nodes n values → MadeAt s values nodes n v → Made nodes (n + 1) (set values n v)
    made_next n values v l made m k below u is =
        let stay : Agree n values (set values n v) = λ j before. set_before values n j v before in
        elim (cases_lt k n) [
          | inl before ↦ made_by n values (set values n v) stay k (omega arith) u (made k before u (set_before values n k v before ∙ is))
          | inr here ↦
              let at : n ≡ k = omega arith in
              let same : v ≡ u = same_Some v u (sym (set_there values n v l) ∙ ap (slice_get (set values n v)) at ∙ is) in
              subst (λ j. MadeAt s (set values n v) nodes j u) at (made_by n values (set values n v) stay n (omega arith) u (subst (λ x. MadeAt s values nodes n x) same m))
        ]

    -- those of all items are the values
    pub the_values : (values : List V) → length nodes ≤ length values → Made nodes (length nodes) values → TheValues s nodes (take (length nodes) values)
    the_values values l made =
        let n = length nodes in
        let keeps : Keeps s nodes (take n values) = record {
          one_each = length-take-le n values l;
          each = λ i node v is value. let below = slice_get_within nodes i node is in made_by n values (take n values) (λ j before. taken_before values n j before) i (omega (arith, below)) v (made i below v (taken_before values n i below ∙ value)) node is;
        } in
        record { keeps = keeps; no_others = λ others other. only_one (take n values) keeps others other }
