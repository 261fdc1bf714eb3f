-- What waits, cut into records again.
use Rattle.std.proofs.Common.{◌≡◌, ℕ, zero, suc, ◌+◌, true, List, [], ◌∷◌, ◌++◌, length, take, is_ok, Some, None, Option, sym, refl, ap, ◌∙◌, subst, arith, length-append}
use native.Mathlib.Nat.{min-eq_left}
use Rattle.std.specs.List.{slice_get, AllByRecursion}
use Rattle.std.proofs.lemmas.Option.{same_Some}
use Rattle.std.proofs.lemmas.List.{take_at, drop_at}
use Rattle.ir.specs.declared.kinds.Kind.{Kind}
use Rattle.ir.specs.Layout.{layout, size_of}
use Rattle.ir.specs.Number.{kind_of}
use Rattle.records.specs.Record.{body_of, judged_parts}
use Rattle.records.specs.Image.{body_size, front_size, split}
use Rattle.records.proofs.Cutting.{split_none, cut_is}
use Rattle.rules.specs.Module.{Record}
use Rattle.draft.specs.State.{start, state}
use Rattle.draft.specs.Admitted.{Accepted, image}
use Rattle.draft.proofs.Fronts.{fronted_so}
use Rattle.items.specs.Between.{item_at}
use Rattle.items.proofs.Between.{front}
use Rattle.arena.proofs.Blocks.{Sound, size_judged, all_sound, all_back}

-- as much of what follows a kind byte belongs to it as the body has
front_is : (o : Option Kind) (body rest : List ℕ) → is_ok (judged_parts (body_of o body)) ≡ true → body_size o (length (body ++ rest)) ≡ length body
front_is None body rest e = absurd cc
front_is (Some k) body rest e =
    let size : length body ≡ size_of (layout k) = size_judged (Some k) body e in
    let all : length (body ++ rest) ≡ length body + length rest = length-append body rest in
    min-eq_left (omega arith) ∙ sym size

-- records delimit themselves
pub split_image : (m : List Record) → AllByRecursion Sound m → split (image m) ≡ m
split_image [] a = split_none
split_image ([] ∷ m) a = absurd cc
split_image ((k ∷ body) ∷ m) a =
    let size : suc (length body) ≡ front_size (k ∷ (body ++ image m)) = let f = front_is (kind_of k) body (image m) a.0 in omega arith in
    let cut = cut_is (k ∷ (body ++ image m)) (k ∷ body) (image m) {n = suc (length body)} (omega arith) size (sym (take_at (k ∷ body) (image m) (suc (length body)) refl)) (sym (drop_at (k ∷ body) (image m) (suc (length body)) refl)) in
    cut.first ∙ ap (λ l. (k ∷ body) ∷ l) (split_image m a.1)

-- what waits at the end of records
pub split_waiting : (m : List Record) → Accepted start m → split (image (state m).waiting) ≡ (state m).waiting
split_waiting m a =
    let f = fronted_so m a in
    split_image (state m).waiting (all_back f.front (state m).waiting (subst (AllByRecursion Sound) (sym f.parts) (all_sound start m a)))

-- an item at a place is shown with what waits there
pub shown_at : (m : List Record) (x : ℕ) (r : Record) (block : List ℕ) → Accepted start m → block ≡ image (state (take x m)).waiting → item_at m x r ≡ record { place = x; bytes = r; taken = split block }
shown_at m x r block a e = ap (λ w. record { place = x; bytes = r; taken = w }) (sym (ap split e ∙ split_waiting (take x m) (front m x a)))

sound_in : (m : List Record) (x : ℕ) (r : Record) → AllByRecursion Sound m → slice_get m x ≡ Some r → Sound r
sound_in [] x r a e = absurd cc
sound_in (y ∷ m) zero r a e = subst Sound (same_Some y r e) a.0
sound_in (y ∷ m) (suc x) r a e = sound_in m x r a.1 e

-- a kept record is sound
pub sound_at : (m : List Record) (x : ℕ) (r : Record) → Accepted start m → slice_get m x ≡ Some r → Sound r
sound_at m x r a e = sound_in m x r (all_sound start m a) e
