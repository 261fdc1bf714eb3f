-- What a record does to the module and to the open body: nothing is lost but what a later one replaces.
use Rattle.std.proofs.Common.{◌≡◌, ℕ, ◌+◌, ◌-◌, ◌<◌, ◌≤◌, true, ◌⊎◌, List, [], ◌∷◌, ◌++◌, length, Some, None, sum_by, Option, sym, refl, ◌∙◌, subst, inl, inr, ⊎_elim, arith}
use Rattle.draft.proofs.Tallying.{statement_stays}
use Rattle.std.proofs.lemmas.Bool.{false≢true}
use Rattle.std.specs.Option.{IsSome}
use Rattle.std.specs.List.{ContainsAt as Has, enumerate_from, AllByRecursion}
use Rattle.std.proofs.ByRecursion.{has_append_left, has_push}
use Rattle.ir.specs.declared.kinds.Kind.{Kind}
use Rattle.ir.specs.declared.kinds.Kind.TheVariants as kind
use Rattle.ir.specs.Number.{number_of}
use Rattle.draft.specs.declared.state.BodyKind.{BodyKind}
use Rattle.draft.specs.declared.state.BodyKind.TheVariants as body_kind
use Rattle.draft.specs.declared.state.Pieces.{Pieces}
use Rattle.draft.specs.declared.state.Pieces.TheVariants as pieces
use Rattle.draft.specs.Manner.{manner_of}
use Rattle.rules.specs.Module.{Item, Body, Module, nobody, opened_by, add_type, add_override, add_constant, add_global, set_special, add_predeclared, add_filter, set_leaf, add_expression, add_function, add_entry, add_argument, set_result, add_local, add_named, add_inner, add_statement, closed}
use Rattle.draft.specs.State.{on_side, open_after, module_after, body_after}
use Rattle.laws.specs.Decoded.{Entry, entries_of_any, Later, Starts}
use Rattle.laws.proofs.Weighing.{item_weight, body_weight, bodies_weight, open_weight, module_weight, standing_weight, any_weighs, list_weight, push_weight, bodies_push_weight, closed_weight, opened_weight}
use Rattle.laws.proofs.Arriving.{Sorted, Marked, FineBody, FineModule, body_later, module_later, marked, push, fine_closed, fine_opened, fine_function, fine_entry}

-- the bodies that ended were opened before the open one, else before n
abbrev pub low_of : Option BodyKind → ℕ → ℕ → ℕ
low_of None p n = n
low_of (Some k) p n = p

low_later : (o : Option BodyKind) (p n : ℕ) → low_of o p n ≤ low_of o p (n + 1)
low_later None p n = omega arith
low_later (Some k) p n = omega arith

pub record Good (m : Module) (o : Option BodyKind) (b : Body) (n : ℕ) : Type 0 where
  pub built : FineModule (low_of o b.opener.place n) n m
  pub body : IsSome o → FineBody n b
  pub unended : b.ending ≡ None

-- a result of the body that a later one of it replaced
abbrev pub OverIn : List Body → ℕ → Type 0
OverIn bs p = (b : Body) × Has bs b × (b.opener.place < p) × Later b.result p

abbrev pub OverOpen : Option BodyKind → Body → ℕ → Type 0
OverOpen o b p = IsSome o × (b.opener.place < p) × Later b.result p

abbrev pub Overtaken : Module → Option BodyKind → Body → ℕ → Type 0
Overtaken m o b p = OverIn m.functions p ⊎ (OverIn m.entries p ⊎ OverOpen o b p)

abbrev pub ReplacedAt : Module → Option BodyKind → Body → Entry → Type 0
ReplacedAt m o b e =
    (Starts e.1 6 × Later m.special e.0)
    ⊎ ((Starts e.1 9 × Later m.leaf e.0)
    ⊎ (Starts e.1 14 × Overtaken m o b e.0))

-- what the module gains: an item that joins others adds nothing yet
abbrev pub added : (Entry → ℕ) → Option Pieces → Item → ℕ
added w None i = item_weight w i
added w (Some p) i = 0

pub record Moved (n : ℕ) (j : Option Pieces) (i : Item) (m : Module) (o : Option BodyKind) (b : Body) (m' : Module) (o' : Option BodyKind) (b' : Body) : Type 0 where
  pub good : Good m' o' b' (n + 1)
  pub carried : (e : Entry) → ReplacedAt m o b e → ReplacedAt m' o' b' e
  pub gone : List Entry
  pub replaced : AllByRecursion (ReplacedAt m' o' b') gone
  pub once : (w : Entry → ℕ) → standing_weight w m' o' b' + sum_by w gone ≡ standing_weight w m o b + added w j i

-- the one entry of an item that a later one may replace
fallen : (P : Entry → Type 0) (k low n : ℕ) (o : Option Item) → Marked k low n o → ((e : Entry) → Starts e.1 k → low ≤ e.0 → e.0 < n → P e) → AllByRecursion P (entries_of_any o)
fallen P k low n None x f = tt
fallen P k low n (Some i) x f =
    let l = x.above in
    let h = x.below in
    subst (λ t. AllByRecursion P (enumerate_from (i.place - length t) (t ++ i.bytes ∷ []))) (sym x.bare) (f (i.place - 0, i.bytes) x.starts (omega arith) (omega arith), tt)

later_grows : (k low n : ℕ) (o : Option Item) (i : Item) → Marked k low n o → i.place ≡ n → (p : ℕ) → Later o p → Later (Some i) p
later_grows k low n None i x at p h = absurd h
later_grows k low n (Some j) i x at p h = let l = x.below in omega arith

open_is : (w : Entry → ℕ) (o : Option BodyKind) (b : Body) → IsSome o → open_weight w o b ≡ body_weight w b
open_is w None b h = absurd cc
open_is w (Some k) b h = refl

module _ (n : ℕ) (i : Item) (at : i.place ≡ n) (m : Module) (o : Option BodyKind) (b : Body) (good : Good m o b n) where
  abbrev low : ℕ
  low = low_of o b.opener.place n

  abbrev next_low : ℕ
  next_low = low_of o b.opener.place (n + 1)

  low_grows : low ≤ next_low
  low_grows = low_later o b.opener.place n

  body_next : IsSome o → FineBody (n + 1) b
  body_next h = body_later n (n + 1) (omega arith) b (good.body h)

  built_next : FineModule next_low (n + 1) m
  built_next = module_later low next_low n (n + 1) low_grows (omega arith) m good.built

  -- a record that waits
  waits_moved : (j : Option Pieces) → ((w : Entry → ℕ) → added w j i ≡ 0) → Moved n j i m o b m o b
  waits_moved j none = record {
    good = record { built = built_next; body = body_next; unended = good.unended };
    carried = λ e x. x;
    gone = [];
    replaced = tt;
    once = λ w. let z = none w in omega arith;
  }

  -- an item more in a table of the module
  into_module : (xs : List Item) → Sorted n xs → (m' : Module) → (Sorted (n + 1) (xs ++ i ∷ []) → FineModule next_low (n + 1) m → FineModule next_low (n + 1) m') → ((e : Entry) → ReplacedAt m o b e → ReplacedAt m' o b e) → ((w : Entry → ℕ) → module_weight w m' + list_weight w xs ≡ module_weight w m + list_weight w (xs ++ i ∷ [])) → Moved n None i m o b m' o b
  into_module xs sorted m' fine carried weighs = record {
    good = record { built = fine (push n i at xs sorted) built_next; body = body_next; unended = good.unended };
    carried = carried;
    gone = [];
    replaced = tt;
    once = λ w. let z = weighs w in let y = push_weight w xs i in omega arith;
  }

  special_moved : Starts i.bytes 6 → i.taken ≡ [] → Moved n None i m o b (set_special m i) o b
  unfolding module_weight
  special_moved starts bare = record {
    good = record { built = let x = marked n i at 6 0 (omega arith) starts bare in let y = built_next in assumption; body = body_next; unended = good.unended };
    carried = λ e. ⊎_elim (λ x. inl (x.0, later_grows 6 0 n m.special i good.built.special at e.0 x.1)) inr;
    gone = entries_of_any m.special;
    replaced = fallen (ReplacedAt (set_special m i) o b) 6 0 n m.special good.built.special (λ e s l h. inl (s, omega arith));
    once = λ w. let y = any_weighs w m.special in omega arith;
  }

  leaf_moved : Starts i.bytes 9 → i.taken ≡ [] → Moved n None i m o b (set_leaf m i) o b
  unfolding module_weight
  leaf_moved starts bare = record {
    good = record { built = let x = marked n i at 9 0 (omega arith) starts bare in let y = built_next in assumption; body = body_next; unended = good.unended };
    carried = λ e. ⊎_elim inl (⊎_elim (λ x. inr (inl (x.0, later_grows 9 0 n m.leaf i good.built.leaf at e.0 x.1))) (λ x. inr (inr x)));
    gone = entries_of_any m.leaf;
    replaced = fallen (ReplacedAt (set_leaf m i) o b) 9 0 n m.leaf good.built.leaf (λ e s l h. inr (inl (s, omega arith)));
    once = λ w. let y = any_weighs w m.leaf in omega arith;
  }

  module _ (inside : IsSome o) where
    -- an item more in a table of the open body
    into_body : (xs : List Item) → Sorted n xs → (b' : Body) → b'.opener ≡ b.opener → b'.ending ≡ b.ending → (Sorted (n + 1) (xs ++ i ∷ []) → FineBody (n + 1) b → FineBody (n + 1) b') → ((e : Entry) → ReplacedAt m o b e → ReplacedAt m o b' e) → ((w : Entry → ℕ) → body_weight w b' + list_weight w xs ≡ body_weight w b + list_weight w (xs ++ i ∷ [])) → Moved n None i m o b m o b'
    into_body xs sorted b' same ends fine carried weighs = record {
      good = record { built = subst (λ x. FineModule (low_of o x.place (n + 1)) (n + 1) m) (sym same) built_next; body = λ h. fine (push n i at xs sorted) (body_next inside); unended = ends ∙ good.unended };
      carried = carried;
      gone = [];
      replaced = tt;
      once = λ w. let z = weighs w in let v = push_weight w xs i in let x = open_is w o b inside in let y = open_is w o b' inside in omega arith;
    }

    result_moved : Starts i.bytes 14 → i.taken ≡ [] → Moved n None i m o b m o (set_result b i)
    unfolding body_weight
    result_moved starts bare =
        let f = good.body inside in
        record {
          good = record { built = built_next; body = λ h. let l = f.opener in let x = marked n i at 14 (b.opener.place + 1) (omega arith) starts bare in let y = body_next inside in assumption; unended = good.unended };
          carried = λ e. ⊎_elim inl (⊎_elim (λ x. inr (inl x)) (λ x. inr (inr (x.0, ⊎_elim inl (⊎_elim (λ y. inr (inl y)) (λ y. inr (inr (y.0, y.1, later_grows 14 (b.opener.place + 1) n b.result i f.result at e.0 y.2)))) x.1))));
          gone = entries_of_any b.result;
          replaced = fallen (ReplacedAt m o (set_result b i)) 14 (b.opener.place + 1) n b.result f.result (λ e s l h. inr (inr (s, inr (inr (inside, omega arith, omega arith)))));
          once = λ w. let v = any_weighs w b.result in let x = open_is w o b inside in let y = open_is w o (set_result b i) inside in omega arith;
        }

-- a body that opens
module _ (n : ℕ) (i : Item) (at : i.place ≡ n) (m : Module) (b : Body) (good : Good m None b n) where
  opens_low : FineModule i.place (n + 1) m
  opens_low = module_later n i.place n (n + 1) (omega arith) (omega arith) m good.built

  none_over : (o : Option BodyKind) (b' : Body) (e : Entry) → ReplacedAt m None b e → ReplacedAt m o b' e
  none_over o b' e = ⊎_elim inl (⊎_elim (λ x. inr (inl x)) (λ x. inr (inr (x.0, ⊎_elim inl (⊎_elim (λ y. inr (inl y)) (λ y. absurd (false≢true y.0))) x.1))))

  opens : (k : BodyKind) → Moved n None i m None b m (Some k) (opened_by i)
  opens k = record {
    good = record { built = opens_low; body = λ h. fine_opened n i at; unended = refl };
    carried = none_over (Some k) (opened_by i);
    gone = [];
    replaced = tt;
    once = λ w. let z = opened_weight w i in omega arith;
  }

-- a body that ends joins its table
module _ (n : ℕ) (i : Item) (at : i.place ≡ n) (m : Module) (b : Body) where
  over_closed : (bs : List Body) (o : Option BodyKind) (p : ℕ) → OverOpen o b p → OverIn (bs ++ closed b i ∷ []) p
  over_closed bs o p y = (closed b i, has_push bs (closed b i), y.1, y.2)

  over_more : (bs : List Body) (p : ℕ) → OverIn bs p → OverIn (bs ++ closed b i ∷ []) p
  over_more bs p y = (y.0, has_append_left bs (closed b i ∷ []) y.0 y.1, y.2, y.3)

  ends : (k : BodyKind) (fs es : List Body) → (FineBody (n + 1) (closed b i) → FineModule b.opener.place (n + 1) m → FineModule (n + 1) (n + 1) (record m { functions = fs; entries = es })) → ((p : ℕ) → Overtaken m (Some k) b p → OverIn fs p ⊎ OverIn es p) → ((w : Entry → ℕ) → bodies_weight w fs + bodies_weight w es ≡ bodies_weight w m.functions + bodies_weight w m.entries + body_weight w (closed b i)) → Good m (Some k) b n → Moved n None i m (Some k) b (record m { functions = fs; entries = es }) None nobody
  unfolding module_weight
  ends k fs es fine over weighs good = record {
    good = record { built = fine (fine_closed n i at b i (good.body refl)) (module_later b.opener.place b.opener.place n (n + 1) (omega arith) (omega arith) m good.built); body = λ h. absurd cc; unended = refl };
    carried = λ e. ⊎_elim inl (⊎_elim (λ x. inr (inl x)) (λ x. inr (inr (x.0, ⊎_elim inl (λ y. inr (inl y)) (over e.0 x.1)))));
    gone = [];
    replaced = tt;
    once = λ w. let z = weighs w in let y = closed_weight w b i good.unended in omega arith;
  }

  function_ends : Good m (Some body_kind.Function) b n → Moved n None i m (Some body_kind.Function) b (add_function m (closed b i)) None nobody
  function_ends = ends body_kind.Function (m.functions ++ closed b i ∷ []) m.entries (fine_function b.opener.place (n + 1) m (closed b i) refl) (λ p. ⊎_elim (λ y. inl (over_more m.functions p y)) (⊎_elim inr (λ y. inl (over_closed m.functions (Some body_kind.Function) p y)))) (λ w. let z = bodies_push_weight w m.functions (closed b i) in omega arith)

  entry_ends : Good m (Some body_kind.EntryPoint) b n → Moved n None i m (Some body_kind.EntryPoint) b (add_entry m (closed b i)) None nobody
  entry_ends = ends body_kind.EntryPoint m.functions (m.entries ++ closed b i ∷ []) (fine_entry b.opener.place (n + 1) m (closed b i) refl) (λ p. ⊎_elim inl (λ x. inr (⊎_elim (over_more m.entries p) (over_closed m.entries (Some body_kind.EntryPoint) p) x))) (λ w. let z = bodies_push_weight w m.entries (closed b i) in omega arith)

module _ (n : ℕ) (i : Item) (at : i.place ≡ n) (m : Module) (b : Body) where
  abbrev After : Kind → Option BodyKind → Type 0
  After k o = Moved n (manner_of k).joins i m o b (module_after k o b i m) (open_after (manner_of k).motion o) (body_after k o i b)

  pub moved_at : (k : Kind) (o : Option BodyKind) → Good m o b n → on_side o (manner_of k).side ≡ true → Starts i.bytes (number_of k) → ((manner_of k).joins ≡ None → (manner_of k).takes ≡ None → i.taken ≡ []) → After k o
  unfolding module_weight body_weight
  moved_at kind.Member o g h s t = waits_moved n i at m o b g (Some pieces.Members) (λ w. refl)
  moved_at kind.Operand o g h s t = waits_moved n i at m o b g (Some pieces.Operands) (λ w. refl)
  moved_at kind.Override o g h s t = into_module n i at m o b g m.overrides g.built.overrides (add_override m i) (λ x y. assumption) (λ e x. x) (λ w. omega arith)
  moved_at kind.Constant o g h s t = into_module n i at m o b g m.constants g.built.constants (add_constant m i) (λ x y. assumption) (λ e x. x) (λ w. omega arith)
  moved_at kind.GlobalVariable o g h s t = into_module n i at m o b g m.globals g.built.globals (add_global m i) (λ x y. assumption) (λ e x. x) (λ w. omega arith)
  moved_at kind.SpecialTypes o g h s t = special_moved n i at m o b g s (t refl refl)
  moved_at kind.Predeclared o g h s t = into_module n i at m o b g m.predeclared g.built.predeclared (add_predeclared m i) (λ x y. assumption) (λ e x. x) (λ w. omega arith)
  moved_at kind.Filter o g h s t = into_module n i at m o b g m.filters g.built.filters (add_filter m i) (λ x y. assumption) (λ e x. x) (λ w. omega arith)
  moved_at kind.Leaf o g h s t = leaf_moved n i at m o b g s (t refl refl)
  moved_at kind.Function None g h s t = opens n i at m b g body_kind.Function
  moved_at kind.Function (Some k) g h s t = absurd cc
  moved_at kind.EntryPoint None g h s t = opens n i at m b g body_kind.EntryPoint
  moved_at kind.EntryPoint (Some k) g h s t = absurd cc
  moved_at kind.FunctionArgument o g h s t = into_body n i at m o b g h b.arguments (g.body h).arguments (add_argument b i) refl refl (λ x y. assumption) (λ e x. x) (λ w. omega arith)
  moved_at kind.FunctionResult o g h s t = result_moved n i at m o b g h s (t refl refl)
  moved_at kind.LocalVariable o g h s t = into_body n i at m o b g h b.locals (g.body h).locals (add_local b i) refl refl (λ x y. assumption) (λ e x. x) (λ w. omega arith)
  moved_at (kind.Type c) o g h s t = into_module n i at m o b g m.types g.built.types (add_type m i) (λ x y. assumption) (λ e x. x) (λ w. omega arith)
  moved_at kind.Named o g h s t = into_body n i at m o b g h b.named (g.body h).named (add_named b i) refl refl (λ x y. assumption) (λ e x. x) (λ w. omega arith)
  moved_at kind.EndFunction None g h s t = absurd cc
  moved_at kind.EndFunction (Some body_kind.Function) g h s t = function_ends n i at m b g
  moved_at kind.EndFunction (Some body_kind.EntryPoint) g h s t = entry_ends n i at m b g
  moved_at (kind.Expression e) None g h s t = into_module n i at m None b g m.expressions g.built.expressions (add_expression m i) (λ x y. assumption) (λ e x. x) (λ w. omega arith)
  moved_at (kind.Expression e) (Some k) g h s t = into_body n i at m (Some k) b g refl b.expressions (g.body refl).expressions (add_inner b i) refl refl (λ x y. assumption) (λ e x. x) (λ w. omega arith)
  moved_at (kind.Statement c) o g h s t = subst (λ p. Moved n None i m o b m p (add_statement b i)) (sym (statement_stays c o)) (into_body n i at m o b g h b.statements (g.body h).statements (add_statement b i) refl refl (λ x y. assumption) (λ e x. x) (λ w. omega arith))
  moved_at k o g h s t = into_body n i at m o b g h b.statements (g.body h).statements (add_statement b i) refl refl (λ x y. assumption) (λ e x. x) (λ w. omega arith)
