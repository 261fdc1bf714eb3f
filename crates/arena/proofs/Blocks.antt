-- An item is one block of bytes: two items are equal exactly when their blocks are.
use Rattle.std.proofs.Common.{◌≡◌, ℕ, suc, ◌<◌, true, false, cond, eqb, List, [], ◌∷◌, ◌++◌, length, take, drop, is_ok, Some, None, Ok, Err, Decides, Option, sym, refl, ap, ◌∙◌, subst, arith, length-append}
use Rattle.std.specs.List.{AllByRecursion}
use Rattle.std.specs.Str.{bytes_eq}
use Rattle.std.proofs.lemmas.List.{take_at, drop_at, same_from_push}
use Rattle.std.proofs.lemmas.Slice.Eq.{bytes_eq-Decides}
use Rattle.std.proofs.lemmas.Bool.{and_parts, and_from, eqb-true}
use Rattle.ir.specs.declared.kinds.Kind.{Kind}
use Rattle.records.specs.declared.judge.Flaw.TheVariants.{WrongLength}
use Rattle.ir.specs.Layout.{layout, size_of}
use Rattle.ir.specs.Number.{kind_of}
use Rattle.records.specs.Record.{judged, judged_parts, body_of}
use Rattle.rules.specs.Module.{Record, Item}
use Rattle.draft.specs.Admitted.{Accepted, image}
use Rattle.draft.specs.State.{State, step}
use Rattle.arena.specs.Put.{same_records, equal_items}
use Rattle.draft.proofs.Stepping.{admitted_kind}

abbrev pub Sound : Record → Type 0
Sound r = is_ok (judged r) ≡ true

abbrev pub kind_size : Option Kind → ℕ
kind_size None = 0
kind_size (Some k) = size_of (layout k)

pub size_judged : (o : Option Kind) (body : List ℕ) → is_ok (judged_parts (body_of o body)) ≡ true → length body ≡ kind_size o
size_judged None body e = absurd cc
size_judged (Some k) body e =
    elim (eqb (length body) (size_of (layout k))) as (λ b. eqb (length body) (size_of (layout k)) ≡ b → is_ok (judged_parts (cond b (Ok (k, body)) (Err WrongLength))) ≡ true → length body ≡ size_of (layout k)) [
      | true ↦ λ q h. eqb-true (length body) (size_of (layout k)) q
      | false ↦ λ q h. absurd cc
    ] refl e

-- the first byte of a record says how long it is
same_front : (x y : Record) (xs ys : List ℕ) → Sound x → Sound y → x ++ xs ≡ y ++ ys → length x ≡ length y
same_front [] y xs ys e f h = absurd cc
same_front (k ∷ x) [] xs ys e f h = absurd cc
same_front (k ∷ x) (l ∷ y) xs ys e f h =
    let same : k ≡ l = cc in
    let a : length x ≡ kind_size (kind_of k) = size_judged (kind_of k) x e in
    let b : length y ≡ kind_size (kind_of l) = size_judged (kind_of l) y f in
    let c : length x ≡ length y = a ∙ ap (λ n. kind_size (kind_of n)) same ∙ sym b in
    ap suc c

pub sound_some : (x : Record) → Sound x → 0 < length x
sound_some [] e = absurd cc
sound_some (k ∷ x) e = omega arith

-- a list of records is known by its bytes
pub image_same : (m n : List Record) → AllByRecursion Sound m → AllByRecursion Sound n → image m ≡ image n → m ≡ n
image_same [] [] a b e = refl
image_same [] (y ∷ n) a b e = let l = ap length e ∙ length-append y (image n) in let p = sound_some y b.0 in absurd (omega arith)
image_same (x ∷ m) [] a b e = let l = sym (ap length e) ∙ length-append x (image m) in let p = sound_some x a.0 in absurd (omega arith)
image_same (x ∷ m) (y ∷ n) a b e =
    let size : length x ≡ length y = same_front x y (image m) (image n) a.0 b.0 e in
    let first : x ≡ y = sym (take_at x (image m) (length x) refl) ∙ ap (take (length x)) e ∙ take_at y (image n) (length x) (sym size) in
    let rest : image m ≡ image n = sym (drop_at x (image m) (length x) refl) ∙ ap (drop (length x)) e ∙ drop_at y (image n) (length x) (sym size) in
    let others : m ≡ n = image_same m n a.1 b.1 rest in
    cc

pub all_sound : (s : State) (m : List Record) → Accepted s m → AllByRecursion Sound m
all_sound s [] a = tt
all_sound s (r ∷ m) a = (ap is_ok (admitted_kind s r a.0).1.kind_is, all_sound (step s r) m a.1)

pub all_front : (m n : List Record) → AllByRecursion Sound (m ++ n) → AllByRecursion Sound m
all_front [] n a = tt
all_front (x ∷ m) n a = (a.0, all_front m n a.1)

pub all_back : (m n : List Record) → AllByRecursion Sound (m ++ n) → AllByRecursion Sound n
all_back [] n a = a
all_back (x ∷ m) n a = all_back m n a.1

same_records_true : (xs ys : List Record) → same_records xs ys ≡ true → xs ≡ ys
same_records_true [] [] e = refl
same_records_true [] (y ∷ ys) e = absurd cc
same_records_true (x ∷ xs) [] e = absurd cc
same_records_true (x ∷ xs) (y ∷ ys) e =
    let p = and_parts (bytes_eq x y) (same_records xs ys) e in
    let a : x ≡ y = (bytes_eq-Decides x y).0 p.0 in
    let b : xs ≡ ys = same_records_true xs ys p.1 in
    cc

same_records_refl : (xs : List Record) → same_records xs xs ≡ true
same_records_refl [] = refl
same_records_refl (x ∷ xs) = and_from (bytes_eq x x) (same_records xs xs) ((bytes_eq-Decides x x).1 refl) (same_records_refl xs)

-- equal items have the same bytes and took the same
pub equal_parts : (i j : Item) → equal_items i j ≡ true → (i.bytes ≡ j.bytes) × (i.taken ≡ j.taken)
equal_parts i j e =
    let p = and_parts (bytes_eq i.bytes j.bytes) (same_records i.taken j.taken) e in
    ((bytes_eq-Decides i.bytes j.bytes).0 p.0, same_records_true i.taken j.taken p.1)

pub equal_from : (i j : Item) → i.bytes ≡ j.bytes → i.taken ≡ j.taken → equal_items i j ≡ true
equal_from i j e f = and_from (bytes_eq i.bytes j.bytes) (same_records i.taken j.taken) ((bytes_eq-Decides i.bytes j.bytes).1 e) (subst (λ t. same_records i.taken t ≡ true) f (same_records_refl i.taken))

-- the block of an item: what it took, and its own bytes
abbrev pub block_of : Item → List ℕ
block_of i = image (i.taken ++ i.bytes ∷ [])

pub blocks_decide : (i j : Item) → AllByRecursion Sound (i.taken ++ i.bytes ∷ []) → AllByRecursion Sound (j.taken ++ j.bytes ∷ []) → Decides (equal_items i j) (block_of i ≡ block_of j)
blocks_decide i j a b = (
  (λ e. let p = equal_parts i j e in ap (λ t. image (t ++ i.bytes ∷ [])) p.1 ∙ ap (λ r. image (j.taken ++ r ∷ [])) p.0),
  (λ e. let p = same_from_push i.taken j.taken i.bytes j.bytes (image_same (i.taken ++ i.bytes ∷ []) (j.taken ++ j.bytes ∷ []) a b e) in equal_from i j p.1 p.0),
)
