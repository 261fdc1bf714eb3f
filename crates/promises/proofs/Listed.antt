-- The items of the four tables as one list, each once.
use Rattle.std.proofs.Common.{◌≡◌, ℕ, zero, suc, ◌+◌, ◌<◌, ◌≤◌, List, ◌++◌, length, refl, sym, ap, ◌∙◌, subst, inl, inr, arith}
use Rattle.std.proofs.lemmas.Bool.{cases_eq}
use Rattle.rules.specs.Module.{Module}
use Rattle.row.proofs.Places.{In, Apart, in_left, in_right, in_either, apart_append}
use Rattle.promises.specs.Rows.{RowItem, IsItemOf, counted, row_items}

abbrev table_number : RowItem → ℕ
table_number (RowItem.type t) = 0
table_number (RowItem.override o) = 1
table_number (RowItem.constant c) = 2
table_number (RowItem.expression e) = 3

abbrev number : RowItem → ℕ
number (RowItem.type t) = t
number (RowItem.override o) = o
number (RowItem.constant c) = c
number (RowItem.expression e) = e

in_counted : (f : ℕ → RowItem) (n k j : ℕ) → n ≤ j → j < n + k → In (counted f n k) (f j)
in_counted f n zero j l h = absurd (omega arith)
in_counted f n (suc k) j l h =
    elim (cases_eq n j) [
      | inl e ↦ inl (ap f e)
      | inr d ↦ inr (in_counted f (suc n) k j (omega arith) (omega arith))
    ]

from_counted : (f : ℕ → RowItem) (n k : ℕ) (x : RowItem) → In (counted f n k) x → (j : ℕ) × (n ≤ j) × (j < n + k) × (f j ≡ x)
from_counted f n zero x h = absurd h
from_counted f n (suc k) x (inl e) = (n, omega arith, omega arith, e)
from_counted f n (suc k) x (inr h) = let r = from_counted f (suc n) k x h in let l = r.1 in let u = r.2 in (r.0, omega arith, omega arith, r.3)

apart_counted : (f : ℕ → RowItem) → ((k : ℕ) → number (f k) ≡ k) → (n k : ℕ) → Apart (counted f n k)
apart_counted f is n zero = tt
apart_counted f is n (suc k) = (
  λ h.
      let r = from_counted f (suc n) k (f n) h in
      let l = r.1 in
      let same : r.0 ≡ n = sym (is r.0) ∙ ap number r.3 ∙ is n in
      absurd (omega arith),
  apart_counted f is (suc n) k,
)

abbrev last_two : Module → List RowItem
last_two m = counted RowItem.constant 0 (length m.constants) ++ counted RowItem.expression 0 (length m.expressions)

abbrev last_three : Module → List RowItem
last_three m = counted RowItem.override 0 (length m.overrides) ++ last_two m

pub in_items : (m : Module) (x : RowItem) → IsItemOf m x → In (row_items m) x
in_items m (RowItem.type t) h = in_left (counted RowItem.type 0 (length m.types)) (last_three m) (RowItem.type t) (in_counted RowItem.type 0 (length m.types) t (omega arith) (omega arith))
in_items m (RowItem.override o) h =
    in_right (counted RowItem.type 0 (length m.types)) (last_three m) (RowItem.override o)
    (in_left (counted RowItem.override 0 (length m.overrides)) (last_two m) (RowItem.override o) (in_counted RowItem.override 0 (length m.overrides) o (omega arith) (omega arith)))
in_items m (RowItem.constant c) h =
    in_right (counted RowItem.type 0 (length m.types)) (last_three m) (RowItem.constant c)
    (in_right (counted RowItem.override 0 (length m.overrides)) (last_two m) (RowItem.constant c)
    (in_left (counted RowItem.constant 0 (length m.constants)) (counted RowItem.expression 0 (length m.expressions)) (RowItem.constant c) (in_counted RowItem.constant 0 (length m.constants) c (omega arith) (omega arith))))
in_items m (RowItem.expression e) h =
    in_right (counted RowItem.type 0 (length m.types)) (last_three m) (RowItem.expression e)
    (in_right (counted RowItem.override 0 (length m.overrides)) (last_two m) (RowItem.expression e)
    (in_right (counted RowItem.constant 0 (length m.constants)) (counted RowItem.expression 0 (length m.expressions)) (RowItem.expression e) (in_counted RowItem.expression 0 (length m.expressions) e (omega arith) (omega arith))))

-- an item of the list of one table
record Found (m : Module) (k : ℕ) (x : RowItem) : Type 0 where
  there : IsItemOf m x
  tabled : table_number x ≡ k

found : (m : Module) (f : ℕ → RowItem) (size k : ℕ) → ((j : ℕ) → j < size → IsItemOf m (f j)) → ((j : ℕ) → table_number (f j) ≡ k) → (x : RowItem) → In (counted f 0 size) x → Found m k x
found m f size k i t x h =
    let r = from_counted f 0 size x h in
    let u = r.2 in
    record { there = subst (IsItemOf m) r.3 (i r.0 (omega arith)); tabled = sym (ap table_number r.3) ∙ t r.0 }

found_type : (m : Module) (x : RowItem) → In (counted RowItem.type 0 (length m.types)) x → Found m 0 x
found_type m = found m RowItem.type (length m.types) 0 (λ j h. h) (λ j. refl)

found_override : (m : Module) (x : RowItem) → In (counted RowItem.override 0 (length m.overrides)) x → Found m 1 x
found_override m = found m RowItem.override (length m.overrides) 1 (λ j h. h) (λ j. refl)

found_constant : (m : Module) (x : RowItem) → In (counted RowItem.constant 0 (length m.constants)) x → Found m 2 x
found_constant m = found m RowItem.constant (length m.constants) 2 (λ j h. h) (λ j. refl)

found_expression : (m : Module) (x : RowItem) → In (counted RowItem.expression 0 (length m.expressions)) x → Found m 3 x
found_expression m = found m RowItem.expression (length m.expressions) 3 (λ j h. h) (λ j. refl)

from_two : (m : Module) (x : RowItem) → In (last_two m) x → IsItemOf m x × (2 ≤ table_number x)
from_two m x h =
    elim (in_either (counted RowItem.constant 0 (length m.constants)) (counted RowItem.expression 0 (length m.expressions)) x h) [
      | inl g ↦ let r = found_constant m x g in (r.there, omega arith)
      | inr g ↦ let r = found_expression m x g in (r.there, omega arith)
    ]

from_three : (m : Module) (x : RowItem) → In (last_three m) x → IsItemOf m x × (1 ≤ table_number x)
from_three m x h =
    elim (in_either (counted RowItem.override 0 (length m.overrides)) (last_two m) x h) [
      | inl g ↦ let r = found_override m x g in (r.there, omega arith)
      | inr g ↦ let r = from_two m x g in (r.0, omega arith)
    ]

pub from_items : (m : Module) (x : RowItem) → In (row_items m) x → IsItemOf m x
from_items m x h =
    elim (in_either (counted RowItem.type 0 (length m.types)) (last_three m) x h) [
      | inl g ↦ (found_type m x g).there
      | inr g ↦ (from_three m x g).0
    ]

pub apart_items : (m : Module) → Apart (row_items m)
apart_items m =
    apart_append (counted RowItem.type 0 (length m.types)) (last_three m) (apart_counted RowItem.type (λ k. refl) 0 (length m.types))
    (apart_append (counted RowItem.override 0 (length m.overrides)) (last_two m) (apart_counted RowItem.override (λ k. refl) 0 (length m.overrides))
    (apart_append (counted RowItem.constant 0 (length m.constants)) (counted RowItem.expression 0 (length m.expressions)) (apart_counted RowItem.constant (λ k. refl) 0 (length m.constants))
    (apart_counted RowItem.expression (λ k. refl) 0 (length m.expressions))
    (λ x h g. let a = (found_constant m x h).tabled in let b = (found_expression m x g).tabled in absurd (omega arith)))
    (λ x h g. let a = (found_override m x h).tabled in let b = (from_two m x g).1 in absurd (omega arith)))
    (λ x h g. let a = (found_type m x h).tabled in let b = (from_three m x g).1 in absurd (omega arith))
