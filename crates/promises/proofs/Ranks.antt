-- How the ranks of types and expressions compare.
use Rattle.std.proofs.Common.{◌≡◌, ℕ, suc, ◌+◌, ◌*◌, ◌<◌, ◌≤◌, take, length, slice_get, flat_map, Some, refl, arith, mul-le-mul_right, suc-mul}
use Rattle.rules.specs.Module.{Item, Module}
use Rattle.rules.specs.Once.{inits}
use Rattle.rules.proofs.Once.{get_take, get_from_take}
use Rattle.row.proofs.Places.{In, in_from_get, has_from_in}
use Rattle.promises.specs.Rows.{room, wide, type_rank, expression_rank}
use Rattle.promises.proofs.Among.{in_flat, from_flat, get_below, above_over, above_under}

module _ (m : Module) where
  -- the init of the size of a type up to t is among the expressions that t waits for
  pub room_over : (t u e : ℕ) (i : Item) → u ≤ t → slice_get m.types u ≡ Some i → In (inits m i) e → suc e ≤ room m t
  room_over t u e i l g h =
      let front = take (suc t) m.types in
      let a = above_over (flat_map (inits m) front) e (in_flat (inits m) front i e (in_from_get front u i (get_take m.types (suc t) u i g (omega arith))) h) in
      omega arith

  pub room_under : (t b : ℕ) → ((u e : ℕ) (i : Item) → u ≤ t → slice_get m.types u ≡ Some i → In (inits m i) e → e < b) → room m t ≤ b
  room_under t b f =
      let front = take (suc t) m.types in
      above_under (flat_map (inits m) front) b
      (λ e h.
      let r = from_flat (inits m) front e h in
      let a = has_from_in front r.0 r.1 in
      let l = get_below m.types (suc t) a.0 r.0 a.1 in
      f a.0 e r.0 (omega arith) (get_from_take (suc t) m.types a.0 r.0 a.1) r.2)

  room_grows : (t u : ℕ) → u ≤ t → room m u ≤ room m t
  room_grows t u l = room_under u (room m t) (λ v e i k g h. let a = room_over t v e i (omega arith) g h in omega arith)

  -- each stands two before what comes after it
  pub type_type : (u t : ℕ) → u < t → suc (type_rank m u) < type_rank m t
  unfolding type_rank
  type_type u t l = let g = room_grows t u (omega arith) in let a = mul-le-mul_right (wide m) g in omega arith

  wide_is : wide m ≡ 2 * length m.types + 4
  unfolding wide
  wide_is = refl

  expression_next : (e : ℕ) → suc (expression_rank m e) ≡ suc e * wide m
  unfolding expression_rank
  expression_next e = let w = wide_is in let s = suc-mul e (wide m) in omega arith

  pub expression_type : (e t : ℕ) → suc e ≤ room m t → suc (expression_rank m e) < type_rank m t
  unfolding type_rank
  expression_type e t l = let n = expression_next e in let a = mul-le-mul_right (wide m) l in omega arith

  pub expression_expression : (e x : ℕ) → e < x → suc (expression_rank m e) < expression_rank m x
  expression_expression e x l =
      let n = expression_next e in
      let k = expression_next x in
      let g : suc e ≤ x = omega arith in
      let a = mul-le-mul_right (wide m) g in
      let s = suc-mul x (wide m) in
      let w = wide_is in
      omega arith

  pub type_expression : (t x : ℕ) → t < length m.types → room m t ≤ x → suc (type_rank m t) < expression_rank m x
  unfolding type_rank expression_rank
  type_expression t x i l = let a = mul-le-mul_right (wide m) l in omega arith

  pub type_positive : (t : ℕ) → 0 < type_rank m t
  unfolding type_rank
  type_positive t = omega arith

  pub expression_positive : (e : ℕ) → 0 < expression_rank m e
  unfolding expression_rank
  expression_positive e = omega arith
