-- What the parts of a state weigh, and how much an item more adds.
use Rattle.std.proofs.Common.{◌≡◌, ℕ, ◌+◌, ◌-◌, ◌≤◌, List, [], ◌∷◌, ◌++◌, length, Some, None, sum_by, Option, refl, ap, ◌∙◌, arith, length-append}
use Rattle.std.specs.List.{flat_map, enumerate_from}
use Rattle.std.proofs.lemmas.List.Sums.{sum_by-cons, sum_by-append, sum_by_push}
use Rattle.draft.specs.declared.state.BodyKind.{BodyKind}
use Rattle.draft.specs.declared.state.BodyKind.TheVariants as body_kind
use Rattle.rules.specs.Module.{Record, Item, Body, Module, opened_by, closed}
use Rattle.draft.specs.State.{State, functions_now, entries_now}
use Rattle.laws.specs.Decoded.{Entry, entries_of, entries_of_any, items_entries, body_entries, bodies, standing}

-- places go on where they stopped
pub numbered_push : (n : ℕ) (rs : List Record) (r : Record) → enumerate_from n (rs ++ r ∷ []) ≡ enumerate_from n rs ++ (n + length rs, r) ∷ []
numbered_push n [] r = let e : n ≡ n + 0 = omega arith in ap (λ k. (k, r) ∷ []) e
numbered_push n (x ∷ rs) r =
    let e : n + 1 + length rs ≡ n + length (x ∷ rs) = omega arith in
    ap (λ t. (n, x) ∷ t) (numbered_push (n + 1) rs r ∙ ap (λ k. enumerate_from (n + 1) rs ++ (k, r) ∷ []) e)

module _ (w : Entry → ℕ) where
  unfoldable pub item_weight : Item → ℕ
  item_weight i = sum_by w (entries_of i)

  abbrev pub any_weight : Option Item → ℕ
  any_weight None = 0
  any_weight (Some i) = item_weight i

  unfoldable pub list_weight : List Item → ℕ
  list_weight xs = sum_by item_weight xs

  unfoldable pub body_weight : Body → ℕ
  body_weight b =
      item_weight b.opener + list_weight b.arguments + any_weight b.result + list_weight b.locals
      + list_weight b.named + list_weight b.expressions + list_weight b.statements + any_weight b.ending

  unfoldable pub bodies_weight : List Body → ℕ
  bodies_weight bs = sum_by body_weight bs

  -- a body that is not open weighs nothing
  abbrev pub open_weight : Option BodyKind → Body → ℕ
  open_weight None b = 0
  open_weight (Some k) b = body_weight b

  unfoldable pub module_weight : Module → ℕ
  module_weight m =
      list_weight m.types + list_weight m.overrides + list_weight m.constants + list_weight m.globals
      + any_weight m.special + list_weight m.predeclared + list_weight m.filters + any_weight m.leaf
      + list_weight m.expressions + bodies_weight m.functions + bodies_weight m.entries

  pub push_weight : (xs : List Item) (i : Item) → list_weight (xs ++ i ∷ []) ≡ list_weight xs + item_weight i
  unfolding list_weight
  push_weight xs i = sum_by_push item_weight xs i

  pub no_weight : list_weight [] ≡ 0
  unfolding list_weight
  no_weight = refl

  pub bodies_push_weight : (bs : List Body) (b : Body) → bodies_weight (bs ++ b ∷ []) ≡ bodies_weight bs + body_weight b
  unfolding bodies_weight
  bodies_push_weight bs b = sum_by_push body_weight bs b

  sum_joined : {X : Type 0} (f : X → List Entry) (g : X → ℕ) → ((x : X) → sum_by w (f x) ≡ g x) → (xs : List X) → sum_by w (flat_map f xs) ≡ sum_by g xs
  sum_joined f g e [] = refl
  sum_joined f g e (x ∷ xs) =
      let a = sum_by-append w (f x) (flat_map f xs) in
      let c = sum_by-cons g x xs in
      let h = e x in
      let t = sum_joined f g e xs in
      cc

  items_weigh : (xs : List Item) → sum_by w (items_entries xs) ≡ list_weight xs
  unfolding list_weight item_weight
  items_weigh xs = sum_joined entries_of item_weight (λ x. refl) xs

  pub any_weighs : (o : Option Item) → sum_by w (entries_of_any o) ≡ any_weight o
  unfolding item_weight
  any_weighs None = refl
  any_weighs (Some i) = refl

  body_weighs : (b : Body) → sum_by w (body_entries b) ≡ body_weight b
  unfolding body_weight item_weight
  body_weighs b =
      let x7 = items_weigh b.statements in
      let x8 = any_weighs b.ending in
      let x6 = items_weigh b.expressions in
      let x5 = items_weigh b.named in
      let x4 = items_weigh b.locals in
      let x3 = any_weighs b.result in
      let x2 = items_weigh b.arguments in
      simp sum_by-append (omega arith)

  bodies_weigh : (bs : List Body) → sum_by w (flat_map body_entries bs) ≡ bodies_weight bs
  unfolding bodies_weight
  bodies_weigh bs = sum_joined body_entries body_weight body_weighs bs

  open_weighs : (o : Option BodyKind) (m : Module) (b : Body) → bodies_weight (functions_now o m b) + bodies_weight (entries_now o m b) ≡ bodies_weight m.functions + bodies_weight m.entries + open_weight o b
  open_weighs None m b = omega arith
  open_weighs (Some body_kind.Function) m b = let e = bodies_push_weight m.functions b in omega arith
  open_weighs (Some body_kind.EntryPoint) m b = let e = bodies_push_weight m.entries b in omega arith

  both_weigh : (xs ys : List Body) → bodies_weight (xs ++ ys) ≡ bodies_weight xs + bodies_weight ys
  unfolding bodies_weight
  both_weigh xs ys = sum_by-append body_weight xs ys

  -- what stands in the module, and the body that is open
  abbrev pub standing_weight : Module → Option BodyKind → Body → ℕ
  standing_weight m o b = module_weight m + open_weight o b

  unfoldable pub waiting_weight : ℕ → List Record → ℕ
  waiting_weight n ws = sum_by w (enumerate_from (n - length ws) ws)

  pub standing_weighs : (s : State) → sum_by w (standing s) ≡ standing_weight s.built s.opened s.body + waiting_weight s.kept s.waiting
  unfolding module_weight waiting_weight
  standing_weighs s =
      let x1 = items_weigh s.built.types in
      let x2 = items_weigh s.built.overrides in
      let x3 = items_weigh s.built.constants in
      let x4 = items_weigh s.built.globals in
      let x5 = any_weighs s.built.special in
      let x6 = items_weigh s.built.predeclared in
      let x7 = items_weigh s.built.filters in
      let x8 = any_weighs s.built.leaf in
      let x9 = items_weigh s.built.expressions in
      let x10 = bodies_weigh (bodies s) in
      let x11 = both_weigh (functions_now s.opened s.built s.body) (entries_now s.opened s.built s.body) in
      let x12 = open_weighs s.opened s.built s.body in
      simp sum_by-append (omega arith)

  -- places go on where they stopped, so what is added weighs by its place
  push_at : (n k : ℕ) (rs : List Record) (r : Record) → n + length rs ≡ k → sum_by w (enumerate_from n (rs ++ r ∷ [])) ≡ sum_by w (enumerate_from n rs) + w (k, r)
  push_at n k rs r e = ap (sum_by w) (numbered_push n rs r) ∙ sum_by_push w (enumerate_from n rs) (n + length rs, r) ∙ ap (λ j. sum_by w (enumerate_from n rs) + w (j, r)) e

  -- an item weighs what waited and its own record
  pub item_weighs : (n : ℕ) (ws : List Record) (r : Record) → length ws ≤ n → item_weight (record { place = n; bytes = r; taken = ws }) ≡ waiting_weight n ws + w (n, r)
  unfolding item_weight waiting_weight
  item_weighs n ws r h = push_at (n - length ws) n ws r (omega arith)

  pub waiting_push : (n : ℕ) (ws : List Record) (r : Record) → length ws ≤ n → waiting_weight (n + 1) (ws ++ r ∷ []) ≡ waiting_weight n ws + w (n, r)
  unfolding waiting_weight
  waiting_push n ws r h =
      let l = length-append ws (r ∷ []) in
      let d : n + 1 - length (ws ++ r ∷ []) ≡ n - length ws = omega arith in
      ap (λ k. sum_by w (enumerate_from k (ws ++ r ∷ []))) d ∙ push_at (n - length ws) n ws r (omega arith)

  pub none_waiting : (n : ℕ) → waiting_weight n [] ≡ 0
  unfolding waiting_weight
  none_waiting n = refl

  pub all_push_weight : (m : List Record) (r : Record) → sum_by w (enumerate_from 0 (m ++ r ∷ [])) ≡ sum_by w (enumerate_from 0 m) + w (length m, r)
  all_push_weight m r = push_at 0 (length m) m r (omega arith)

pub closed_weight : (w : Entry → ℕ) (b : Body) (i : Item) → b.ending ≡ None → body_weight w (closed b i) ≡ body_weight w b + item_weight w i
unfolding body_weight
closed_weight w b i h = let e = ap (any_weight w) h in omega arith

pub opened_weight : (w : Entry → ℕ) (i : Item) → body_weight w (opened_by i) ≡ item_weight w i
unfolding body_weight
opened_weight w i = let e = no_weight w in omega arith
