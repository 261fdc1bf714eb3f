-- A kind and its number name each other.
use Rattle.std.proofs.Common.{◌≡◌, ℕ, zero, suc, ◌<◌, Bool, true, ◌&&◌, eqb, Some, None, Option, sym, refl, subst, inl, inr, arith}
use Rattle.std.proofs.lemmas.Bool.{and_parts, cases_eq, eqb-true}
use Rattle.ir.specs.declared.kinds.Kind.{Kind}
use Rattle.ir.specs.declared.kinds.Kind.TheVariants as kind
use Rattle.ir.specs.declared.kinds.TypeInner.TheVariants as type
use Rattle.ir.specs.declared.kinds.Expression.TheVariants as expression
use Rattle.ir.specs.declared.kinds.Statement.TheVariants as statement
use Rattle.ir.specs.Number.{kind_of, number_of}

-- the kind of a kind's number is that kind
pub number_kind : (k : Kind) → kind_of (number_of k) ≡ Some k
number_kind (kind.Type type.Scalar) = refl
number_kind (kind.Type _) = refl
number_kind (kind.Expression expression.Literal) = refl
number_kind (kind.Expression _) = refl
number_kind (kind.Statement statement.Emit) = refl
number_kind (kind.Statement _) = refl
number_kind _ = refl

-- a test of every number below a bound

abbrev all_below : ℕ → (ℕ → Bool) → Bool
all_below zero p = true
all_below (suc n) p = p n && all_below n p

below_all : (n : ℕ) (p : ℕ → Bool) (k : ℕ) → all_below n p ≡ true → k < n → p k ≡ true
below_all zero p k e l = absurd (omega arith)
below_all (suc n) p k e l =
    let b = and_parts (p n) (all_below n p) e in
    elim (cases_eq k n) [
      | inl same ↦ subst (λ (z : ℕ). p z ≡ true) (sym same) b.0
      | inr other ↦ below_all n p k b.1 (omega arith)
    ]

abbrev has_number : ℕ → Option Kind → Bool
has_number n None = true
has_number n (Some k) = eqb n (number_of k)

every_byte : all_below 256 (λ n. has_number n (kind_of n)) ≡ true
every_byte = refl

-- no byte but its number has a kind
pub only_number : (k : Kind) (n : ℕ) → n < 256 → kind_of n ≡ Some k → n ≡ number_of k
only_number k n small e =
    let test = below_all 256 (λ m. has_number m (kind_of m)) n every_byte small in
    eqb-true n (number_of k) (rw e at test)
