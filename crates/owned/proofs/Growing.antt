-- Put depends on the memory only through whether there is enough.
use Rattle.std.proofs.Common.{◌≡◌, ℕ, ◌+◌, ◌<◌, ◌≤◌, true, List, length, is_ok, is_err, Some, None, Ok, Err, Option, Result, refl, arith}
use Rattle.std.proofs.lemmas.Bool.Decides.{nat_tests}
use Rattle.ir.specs.declared.kinds.Kind.{Kind}
use Rattle.rules.specs.Module.{Record}
use Rattle.draft.specs.declared.refusal.Refusal.{Refusal}
use Rattle.draft.specs.declared.state.SlotTable.{SlotTable}
use Rattle.draft.specs.declared.state.SlotTable.TheVariants as table
use Rattle.draft.specs.State.{start, state, table_of, number_of_next}
use Rattle.draft.specs.Admitted.{image, admitted, Accepted}
use Rattle.draft.proofs.Stepping.{counted_so}
use Rattle.arena.specs.Put.{has_room, fits, added, known, known_or_added, put_in, put_admitted, put_def}
use Rattle.owned.specs.Putting.{put_all}

room_same : (a b p q used kept size n : ℕ) → used + size ≤ a → used + size ≤ b → kept < p → kept < q → has_room a p used kept size n ≡ has_room b q used kept size n
room_same a b p q used kept size n e f g h = grind (arith, nat_tests)

module _ (a b p q : ℕ) (m : List Record) (r : Record) (same : (t : SlotTable) → fits a p (state m) r t ≡ fits b q (state m) r t) where
  added_same : (t : SlotTable) → added a p m r t ≡ added b q m r t
  added_same t = rw (same t)

  known_same : (o : Option ℕ) → known_or_added a p m r o ≡ known_or_added b q m r o
  known_same (Some n) = refl
  known_same None = added_same table.Types

  in_same : (t : SlotTable) → put_in a p m r t ≡ put_in b q m r t
  in_same table.Types = known_same (known (state m) r)
  in_same t = added_same t

  admitted_same : (f : Result Kind Refusal) → put_admitted a p m r f ≡ put_admitted b q m r f
  admitted_same (Err e) = refl
  admitted_same (Ok k) = in_same (table_of (state m) k)

  pub put_same : put_def a p m r ≡ put_def b q m r
  unfolding put_def
  put_same = admitted_same (admitted (state m) r)

-- with enough memory, put is as defined without a bound
pub put_enough : (room places : ℕ) (m : List Record) (r : Record) → Accepted start m → length (image m) + length r ≤ room → length m + 1 ≤ places → put_def room places m r ≡ put_all m r
put_enough room places m r ok large many =
    let c = counted_so m ok in
    let u = c.used_is in
    let k = c.kept_is in
    put_same room (length (image m) + length r) places (length m + 1) m r (λ t. room_same room (length (image m) + length r) places (length m + 1) (state m).used (state m).kept (length r) (number_of_next t (state m)) (omega arith) (omega arith) (omega arith) (omega arith))

pub not_both : {T E : Type 0} (r : Result T E) → is_ok r ≡ true → is_err r ≡ true → ⊥
not_both (Ok x) a b = let z : ◌≡◌ {A = ℕ} 0 1 = cc in omega arith
not_both (Err e) a b = let z : ◌≡◌ {A = ℕ} 0 1 = cc in omega arith
