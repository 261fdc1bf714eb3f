-- Each table is in order of arrival, below what is kept, and an item that arrives keeps it so.
use Rattle.std.proofs.Common.{◌≡◌, ℕ, ◌+◌, ◌<◌, ◌≤◌, List, [], ◌∷◌, ◌++◌, map, Some, None, Option, sym, subst, arith}
use Rattle.std.specs.List.{AllByRecursion}
use Rattle.std.proofs.ByRecursion.{All-push, All-weaker}
use Rattle.std.proofs.lemmas.List.{map_push}
use Rattle.rules.specs.Module.{Item, Body, Module, opened_by, add_function, add_entry, closed}
use Rattle.laws.specs.Decoded.{Starts, Arrived}

-- items in order of arrival, all of them before n
pub record Sorted (n : ℕ) (xs : List Item) : Type 0 where
  pub arrived : Arrived xs
  pub below : AllByRecursion (λ i. i.place < n) xs

all_places : (P : ℕ → Type 0) (xs : List Item) (i : Item) → AllByRecursion P (map (λ x. x.place) xs) → P i.place → AllByRecursion P (map (λ x. x.place) (xs ++ i ∷ []))
all_places P xs i a h = subst (AllByRecursion P) (sym (map_push (λ x. x.place) xs i)) (All-push P (map (λ x. x.place) xs) i.place a h)

arrived_push : (xs : List Item) (i : Item) → Arrived xs → AllByRecursion (λ x. x.place < i.place) xs → Arrived (xs ++ i ∷ [])
arrived_push [] i a b = (tt, tt)
arrived_push (x ∷ xs) i a b = (all_places (λ p. x.place < p) xs i a.0 b.0, arrived_push xs i a.1 b.1)

pub sorted_later : (n k : ℕ) (xs : List Item) → n ≤ k → Sorted n xs → Sorted k xs
sorted_later n k xs h s = record { arrived = s.arrived; below = All-weaker (λ i. i.place < n) (λ i. i.place < k) (λ i l. omega arith) xs s.below }

pub sorted_none : (n : ℕ) → Sorted n []
sorted_none n = record { arrived = tt; below = tt }

-- an item that arrives at n or later is the last
pub sorted_push : (n k : ℕ) (xs : List Item) (i : Item) → n ≤ i.place → i.place < k → Sorted n xs → Sorted k (xs ++ i ∷ [])
sorted_push n k xs i h l s = record {
  arrived = arrived_push xs i s.arrived (All-weaker (λ x. x.place < n) (λ x. x.place < i.place) (λ x b. omega arith) xs s.below);
  below = All-push (λ x. x.place < k) xs i (All-weaker (λ x. x.place < n) (λ x. x.place < k) (λ x b. omega arith) xs s.below) l;
}

-- an item that a later one may replace: its kind, that it took nothing, and where it stands
pub record MarkedItem (k low n : ℕ) (i : Item) : Type 0 where
  pub starts : Starts i.bytes k
  pub bare : i.taken ≡ []
  pub above : low ≤ i.place
  pub below : i.place < n

abbrev pub Marked : ℕ → ℕ → ℕ → Option Item → Type 0
Marked k low n None = Unit {0}
Marked k low n (Some i) = MarkedItem k low n i

pub marked_later : (k low n n' : ℕ) (o : Option Item) → n ≤ n' → Marked k low n o → Marked k low n' o
marked_later k low n n' None h x = tt
marked_later k low n n' (Some i) h x = record { starts = x.starts; bare = x.bare; above = x.above; below = omega arith }

pub record FineBody (n : ℕ) (b : Body) : Type 0 where
  pub opener : b.opener.place < n
  pub result : Marked 14 (b.opener.place + 1) n b.result
  pub arguments : Sorted n b.arguments
  pub locals : Sorted n b.locals
  pub named : Sorted n b.named
  pub expressions : Sorted n b.expressions
  pub statements : Sorted n b.statements

-- before low the bodies of a module were opened
pub record FineModule (low n : ℕ) (m : Module) : Type 0 where
  pub types : Sorted n m.types
  pub overrides : Sorted n m.overrides
  pub constants : Sorted n m.constants
  pub globals : Sorted n m.globals
  pub special : Marked 6 0 n m.special
  pub predeclared : Sorted n m.predeclared
  pub filters : Sorted n m.filters
  pub leaf : Marked 9 0 n m.leaf
  pub expressions : Sorted n m.expressions
  pub functions : Sorted low (map (λ b. b.opener) m.functions)
  pub entries : Sorted low (map (λ b. b.opener) m.entries)
  pub in_functions : AllByRecursion (FineBody n) m.functions
  pub in_entries : AllByRecursion (FineBody n) m.entries

pub body_later : (n k : ℕ) → n ≤ k → (b : Body) → FineBody n b → FineBody k b
body_later n k h b f = record {
  opener = let l = f.opener in omega arith;
  result = marked_later 14 (b.opener.place + 1) n k b.result h f.result;
  arguments = sorted_later n k b.arguments h f.arguments;
  locals = sorted_later n k b.locals h f.locals;
  named = sorted_later n k b.named h f.named;
  expressions = sorted_later n k b.expressions h f.expressions;
  statements = sorted_later n k b.statements h f.statements;
}

pub module_later : (low low' n k : ℕ) → low ≤ low' → n ≤ k → (m : Module) → FineModule low n m → FineModule low' k m
module_later low low' n k hl h m f = record {
  types = sorted_later n k m.types h f.types;
  overrides = sorted_later n k m.overrides h f.overrides;
  constants = sorted_later n k m.constants h f.constants;
  globals = sorted_later n k m.globals h f.globals;
  special = marked_later 6 0 n k m.special h f.special;
  predeclared = sorted_later n k m.predeclared h f.predeclared;
  filters = sorted_later n k m.filters h f.filters;
  leaf = marked_later 9 0 n k m.leaf h f.leaf;
  expressions = sorted_later n k m.expressions h f.expressions;
  functions = sorted_later low low' (map (λ b. b.opener) m.functions) hl f.functions;
  entries = sorted_later low low' (map (λ b. b.opener) m.entries) hl f.entries;
  in_functions = All-weaker (FineBody n) (FineBody k) (body_later n k h) m.functions f.in_functions;
  in_entries = All-weaker (FineBody n) (FineBody k) (body_later n k h) m.entries f.in_entries;
}

-- an item that arrives at n
module _ (n : ℕ) (i : Item) (at : i.place ≡ n) where
  pub marked : (k low : ℕ) → low ≤ n → Starts i.bytes k → i.taken ≡ [] → MarkedItem k low (n + 1) i
  marked k low h starts bare = record { starts = starts; bare = bare; above = omega arith; below = omega arith }

  pub push : (xs : List Item) → Sorted n xs → Sorted (n + 1) (xs ++ i ∷ [])
  push xs s = sorted_push n (n + 1) xs i (omega arith) (omega arith) s

  pub fine_closed : (b : Body) (j : Item) → FineBody n b → FineBody (n + 1) (closed b j)
  fine_closed b j f = let g = body_later n (n + 1) (omega arith) b f in assumption

  pub fine_opened : FineBody (n + 1) (opened_by i)
  fine_opened = let l : i.place < n + 1 = omega arith in let s = sorted_none (n + 1) in assumption

-- a body joins its table
module _ (low n : ℕ) (m : Module) (b : Body) (at : low ≡ b.opener.place) (fine : FineBody n b) where
  later : FineModule low n m → FineModule n n m
  later f = let l = fine.opener in module_later low n n n (omega arith) (omega arith) m f

  openers : (bs : List Body) → Sorted low (map (λ x. x.opener) bs) → Sorted n (map (λ x. x.opener) (bs ++ b ∷ []))
  openers bs s = subst (Sorted n) (sym (map_push (λ x. x.opener) bs b)) (let l = fine.opener in sorted_push low n (map (λ x. x.opener) bs) b.opener (omega arith) l s)

  pub fine_function : FineModule low n m → FineModule n n (add_function m b)
  fine_function f = let g = later f in let o = openers m.functions f.functions in let a = All-push (FineBody n) m.functions b f.in_functions fine in assumption

  pub fine_entry : FineModule low n m → FineModule n n (add_entry m b)
  fine_entry f = let g = later f in let o = openers m.entries f.entries in let a = All-push (FineBody n) m.entries b f.in_entries fine in assumption
