-- What passed tests give of items.
use Rattle.std.proofs.Common.{◌≡◌, ℕ, suc, ◌+◌, ◌<◌, ◌≤◌, Bool, true, eqb, List, [], ◌∷◌, ◌++◌, length, flat_map, Some, None, Ok, Option, sym, subst, arith}
use Rattle.std.specs.List.{AllByRecursion}
use Rattle.std.proofs.ByRecursion.{All-append, All-weaker}
use Rattle.ir.specs.declared.handle.Table.{Table}
use Rattle.ir.specs.declared.handle.Handle.{Handle}
use Rattle.ir.specs.declared.kinds.Kind.{Kind}
use Rattle.ir.specs.Layout.{layout}
use Rattle.records.specs.Handles.{handles_of}
use Rattle.records.specs.Record.{judged}
use Rattle.rules.specs.declared.faults.Rule.{Rule}
use Rattle.rules.specs.declared.sizes.Sizes.{Sizes}
use Rattle.rules.specs.Module.{Record, Item}
use Rattle.rules.specs.Sizes.{size_in}
use Rattle.rules.specs.Items.{handles, code, numbers}
use Rattle.rules.specs.Fault.{Test, own_inside, numbered_from, numbered}
use Rattle.rules.specs.Verdict.{AllHold}
use Rattle.rules.proofs.Passing.{hold_left, hold_right, all_left, all_right}
use Rattle.rules.proofs.Once.{all_flat}
use Rattle.draft.specs.declared.state.Pieces.{Pieces}
use Rattle.draft.specs.Manner.{manner_of}
use Rattle.tables.proofs.Numbers.{numbers_append}
use Rattle.sealing.proofs.FieldTables.{Allowed, fields_allowed}
use Rattle.promises.specs.Inside.{IsInside, ItemInside, ItemsInside}
use Rattle.promises.proofs.Handles.{inside_from_hold, OfTable, same_code, by_tables, from_numbers}
use Rattle.promises.proofs.Made.{allowed_of, piece_kind, PiecesAre, Made}

-- lists

abbrev pub All : {X : Type 0} → (X → Type 0) → List X → Type 0
All P xs = AllByRecursion P xs

module _ {X : Type 0} (P Q : X → Type 0) where
  pub both : (xs : List X) → All P xs → All Q xs → All (λ x. P x × Q x) xs
  both [] p q = tt
  both (x ∷ xs) p q = ((p.0, q.0), both xs p.1 q.1)

  -- items whose tests give P, where each is a Q
  pub tested_each : (f : X → List Test) → ((x : X) → Q x → AllHold (f x) → P x) → (xs : List X) → All Q xs → AllHold (flat_map f xs) → All P xs
  tested_each f g [] q h = tt
  tested_each f g (x ∷ xs) q h = (g x q.0 (hold_left (f x) (flat_map f xs) h), tested_each f g xs q.1 (hold_right (f x) (flat_map f xs) h))

  tested_from : (f : ℕ → X → List Test) (size : ℕ) → ((k : ℕ) (x : X) → k < size → Q x → AllHold (f k x) → P x) → (n : ℕ) (xs : List X) → n + length xs ≤ size → All Q xs → AllHold (numbered_from f n xs) → All P xs
  tested_from f size g n [] l q h = tt
  tested_from f size g n (x ∷ xs) l q h = (g n x (omega arith) q.0 (hold_left (f n x) (numbered_from f (suc n) xs) h), tested_from f size g (suc n) xs (omega arith) q.1 (hold_right (f n x) (numbered_from f (suc n) xs) h))

  pub tested_all : (f : ℕ → X → List Test) → (xs : List X) → ((k : ℕ) (x : X) → k < length xs → Q x → AllHold (f k x) → P x) → All Q xs → AllHold (numbered f xs) → All P xs
  tested_all f xs g q h = tested_from f (length xs) g 0 xs (omega arith) q h

-- handles of one table

abbrev pub only : Table → Table → Bool
only t u = eqb (code t) (code u)

pub of_only : (t u : Table) (P : Handle → Type 0) (hs : List Handle) → only t u ≡ true → OfTable t P hs → OfTable u P hs
of_only t u P hs e a = subst (λ v. OfTable v P hs) (same_code t u e) a

abbrev pub pieces_allowed : (Table → Bool) → Option Pieces → Bool
pieces_allowed allowed None = true
pieces_allowed allowed (Some p) = fields_allowed allowed (layout (piece_kind p))

pub pieces_are_allowed : (allowed : Table → Bool) (p : Option Pieces) (ts : List Record) → PiecesAre p ts → pieces_allowed allowed p ≡ true → All (Allowed allowed) (flat_map handles_of ts)
pieces_are_allowed allowed None ts h e = subst (λ l. All (Allowed allowed) (flat_map handles_of l)) (sym h) tt
pieces_are_allowed allowed (Some p) ts h e =
    all_flat (Allowed allowed) handles_of ts
    (All-weaker (λ r. judged r ≡ Ok (piece_kind p)) (λ r. All (Allowed allowed) (handles_of r)) (λ r j. allowed_of allowed r (piece_kind p) j e) ts h)

pub below_size : (n size : ℕ) (xs : List ℕ) → n ≤ size → All (λ x. x < n) xs → All (λ x. x < size) xs
below_size n size xs l a = All-weaker (λ x. x < n) (λ x. x < size) (λ x b. omega arith) xs a

module _ (P : ℕ → Type 0) (t : Table) (i : Item) (a : All P (numbers t (handles i))) where
  parts : All P (numbers t (handles_of i.bytes) ++ numbers t (flat_map handles_of i.taken))
  parts = subst (All P) (numbers_append t (handles_of i.bytes) (flat_map handles_of i.taken)) a

  pub own_numbers : All P (numbers t (handles_of i.bytes))
  own_numbers = all_left P (numbers t (handles_of i.bytes)) (numbers t (flat_map handles_of i.taken)) parts

  taken_numbers : All P (numbers t (flat_map handles_of i.taken))
  taken_numbers = all_right P (numbers t (handles_of i.bytes)) (numbers t (flat_map handles_of i.taken)) parts

module _ (s : Sizes) where
  -- what took nothing has its own handles only
  pub bare : (i : Item) → i.taken ≡ [] → All (IsInside s) (handles_of i.bytes) → ItemInside s i
  bare i e a = All-append (IsInside s) (handles_of i.bytes) (flat_map handles_of i.taken) a (subst (λ ts. All (IsInside s) (flat_map handles_of ts)) (sym e) tt)

  -- and what took records of one table has those too
  pub taking : (t : Table) (p : Option Pieces) (i : Item) → PiecesAre p i.taken → pieces_allowed (only t) p ≡ true → All (λ n. n < size_in s t) (numbers t (handles i)) → All (IsInside s) (handles_of i.bytes) → ItemInside s i
  taking t p i h e n a =
      let hs = flat_map handles_of i.taken in
      All-append (IsInside s) (handles_of i.bytes) hs a
      (by_tables (only t) (IsInside s) hs (pieces_are_allowed (only t) p i.taken h e)
      (λ u o. of_only t u (IsInside s) hs o (from_numbers s t hs (taken_numbers (λ x. x < size_in s t) t i n))))

  -- items all of whose handles are tested
  pub own_items : (broken : Rule) (k : Kind) → (manner_of k).takes ≡ None → (items : List Item) → All (Made k) items → AllHold (flat_map (own_inside broken s) items) → ItemsInside s items
  own_items broken k none items w h =
      tested_each (ItemInside s) (Made k) (own_inside broken s)
      (λ i m p. bare i (subst (λ t. PiecesAre t i.taken) none m.taken) (inside_from_hold broken s i.place (handles_of i.bytes) p))
      items w h
