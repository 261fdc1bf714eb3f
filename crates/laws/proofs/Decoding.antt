-- Every kept record stands in the module once, and each table is in order of arrival.
use Rattle.std.proofs.Common.{◌≡◌, ℕ, ◌+◌, ◌≤◌, true, false, List, [], ◌∷◌, ◌++◌, length, sum_by, sym, refl, ap, ◌∙◌, inl, inr, ⊎_elim, arith, length-append, Some, None, Option}
use Rattle.std.specs.Option.{IsSome}
use Rattle.std.specs.List.{ContainsAt as Has, enumerate_from, AllByRecursion}
use Rattle.std.proofs.ByRecursion.{All-push, All-weaker, All-append, has_append_left, has_append_right, has_push}
use Rattle.std.proofs.lemmas.List.Sums.{sum_by-append}
use Rattle.ir.specs.declared.kinds.Kind.{Kind}
use Rattle.draft.specs.declared.state.BodyKind.{BodyKind}
use Rattle.draft.specs.declared.state.BodyKind.TheVariants as body_kind
use Rattle.draft.specs.declared.state.Pieces.{Pieces}
use Rattle.draft.specs.declared.manner.Manner.{Manner}
use Rattle.draft.specs.Manner.{manner_of}
use Rattle.rules.specs.Module.{Record, Body, Module}
use Rattle.draft.specs.State.{State, start, state, stepped, item_of, waiting_after, meets, functions_now, entries_now}
use Rattle.draft.specs.Admitted.{Accepted}
use Rattle.draft.proofs.Stepping.{Admits, throughout}
use Rattle.laws.specs.Decoded.{Entry, bodies, Replaced, BodyArrived, ModuleArrived, Decoded}
use Rattle.laws.proofs.Weighing.{standing_weight, waiting_weight, standing_weighs, item_weighs, waiting_push, none_waiting, all_push_weight, list_weight, bodies_weight, module_weight}
use Rattle.laws.proofs.Arriving.{FineBody, FineModule, sorted_none}
use Rattle.laws.proofs.KindBytes.{starts_so}
use Rattle.laws.proofs.Moving.{Good, ReplacedAt, added, moved_at}

-- what each record keeps
record Sound (m : List Record) (s : State) : Type 0 where
  kept_is : s.kept ≡ length m
  fits : length s.waiting ≤ s.kept
  idle : s.waits ≡ None → s.waiting ≡ []
  good : Good s.built s.opened s.body s.kept
  gone : List Entry
  replaced : AllByRecursion (ReplacedAt s.built s.opened s.body) gone
  once : (w : Entry → ℕ) → sum_by w (enumerate_from 0 m) ≡ standing_weight w s.built s.opened s.body + waiting_weight w s.kept s.waiting + sum_by w gone

waits_fit : (j : Option Pieces) (ws : List Record) (r : Record) (n : ℕ) → length ws ≤ n → length (waiting_after j ws r) ≤ n + 1
waits_fit None ws r n h = omega arith
waits_fit (Some p) ws r n h = let l = length-append ws (r ∷ []) in omega arith

-- a record is in the item that it makes, or it waits
gains : (w : Entry → ℕ) (j : Option Pieces) (n : ℕ) (ws : List Record) (r : Record) → length ws ≤ n → added w j (record { place = n; bytes = r; taken = ws }) + waiting_weight w (n + 1) (waiting_after j ws r) ≡ waiting_weight w n ws + w (n, r)
gains w None n ws r h = let a = item_weighs w n ws r h in let b = none_waiting w (n + 1) in omega arith
gains w (Some p) n ws r h = let a = waiting_push w n ws r h in omega arith

-- a record that neither joins nor takes comes where nothing waits
none_waits : (w : Option Pieces) (n : Manner) → meets w n ≡ true → n.joins ≡ None → n.takes ≡ None → w ≡ None
none_waits None n h j t = refl
none_waits (Some p) n h j t = let f : false ≡ true = simp (j, t) at h in absurd cc

sound_next : (m : List Record) (s : State) (r : Record) (k : Kind) → Admits s r k → Sound m s → Sound (m ++ r ∷ []) (stepped k r s)
sound_next m s r k a x =
    let v = moved_at s.kept (item_of s r) refl s.built s.body k s.opened x.good a.on_its_side (starts_so k r a.kind_is) (λ j t. x.idle (none_waits s.waits (manner_of k) a.allowed j t)) in
    let here = ReplacedAt s.built s.opened s.body in
    let there = ReplacedAt (stepped k r s).built (stepped k r s).opened (stepped k r s).body in
    record {
      kept_is = ap (λ n. n + 1) x.kept_is ∙ sym (length-append m (r ∷ []));
      fits = waits_fit (manner_of k).joins s.waiting r s.kept x.fits;
      idle = λ e. ap (λ j. waiting_after j s.waiting r) e;
      good = v.good;
      gone = x.gone ++ v.gone;
      replaced = All-append there x.gone v.gone (All-weaker here there v.carried x.gone x.replaced) v.replaced;
      once = λ w.
          let e1 = all_push_weight w m r in
          let e2 = x.once w in
          let e3 = v.once w in
          let e4 = gains w (manner_of k).joins s.kept s.waiting r x.fits in
          let e5 = sum_by-append w x.gone v.gone in
          let e6 : w (length m, r) ≡ w (s.kept, r) = ap (λ n. w (n, r)) (sym x.kept_is) in
          omega arith;
    }

sound_start : Sound [] start
unfolding module_weight waiting_weight list_weight bodies_weight
sound_start =
    let none = sorted_none 0 in
    record {
      kept_is = refl;
      fits = omega arith;
      idle = λ e. refl;
      good = record {
        built = record { types = none; overrides = none; constants = none; globals = none; special = tt; predeclared = none; filters = none; leaf = tt; expressions = none; functions = none; entries = none; in_functions = tt; in_entries = tt };
        body = λ h. absurd cc;
        unended = refl;
      };
      gone = [];
      replaced = tt;
      once = λ w. refl;
    }

-- the bodies that ended, and the open one
all_bodies : (P : Body → Type 0) (o : Option BodyKind) (m : Module) (b : Body) → AllByRecursion P m.functions → AllByRecursion P m.entries → (IsSome o → P b) → AllByRecursion P (functions_now o m b ++ entries_now o m b)
all_bodies P None m b f e h = All-append P m.functions m.entries f e
all_bodies P (Some body_kind.Function) m b f e h = All-append P (m.functions ++ b ∷ []) m.entries (All-push P m.functions b f (h refl)) e
all_bodies P (Some body_kind.EntryPoint) m b f e h = All-append P m.functions (m.entries ++ b ∷ []) f (All-push P m.entries b e (h refl))

has_function : (o : Option BodyKind) (m : Module) (b x : Body) → Has m.functions x → Has (functions_now o m b ++ entries_now o m b) x
has_function None m b x h = has_append_left m.functions m.entries x h
has_function (Some body_kind.Function) m b x h = has_append_left (m.functions ++ b ∷ []) m.entries x (has_append_left m.functions (b ∷ []) x h)
has_function (Some body_kind.EntryPoint) m b x h = has_append_left m.functions (m.entries ++ b ∷ []) x h

has_entry : (o : Option BodyKind) (m : Module) (b x : Body) → Has m.entries x → Has (functions_now o m b ++ entries_now o m b) x
has_entry None m b x h = has_append_right m.functions m.entries x h
has_entry (Some body_kind.Function) m b x h = has_append_right (m.functions ++ b ∷ []) m.entries x h
has_entry (Some body_kind.EntryPoint) m b x h = has_append_right m.functions (m.entries ++ b ∷ []) x (has_append_left m.entries (b ∷ []) x h)

has_open : (o : Option BodyKind) (m : Module) (b : Body) → IsSome o → Has (functions_now o m b ++ entries_now o m b) b
has_open None m b h = absurd cc
has_open (Some body_kind.Function) m b h = has_append_left (m.functions ++ b ∷ []) m.entries b (has_push m.functions b)
has_open (Some body_kind.EntryPoint) m b h = has_append_right m.functions (m.entries ++ b ∷ []) b (has_push m.entries b)

replaced_so : (s : State) (e : Entry) → ReplacedAt s.built s.opened s.body e → Replaced s e
replaced_so s e =
    ⊎_elim inl (⊎_elim (λ x. inr (inl x)) (λ x. inr (inr (
      x.0,
      ⊎_elim
          (λ y. (y.0, has_function s.opened s.built s.body y.0 y.1, y.2, y.3))
          (⊎_elim
          (λ y. (y.0, has_entry s.opened s.built s.body y.0 y.1, y.2, y.3))
          (λ y. (s.body, has_open s.opened s.built s.body y.0, y.1, y.2)))
          x.1,
    ))))

body_arrived : (n : ℕ) (b : Body) → FineBody n b → BodyArrived b
body_arrived n b f = record { arguments = f.arguments.arrived; locals = f.locals.arrived; named = f.named.arrived; expressions = f.expressions.arrived; statements = f.statements.arrived }

module_arrived : (low n : ℕ) (m : Module) → FineModule low n m → ModuleArrived m
module_arrived low n m f = record { types = f.types.arrived; overrides = f.overrides.arrived; constants = f.constants.arrived; globals = f.globals.arrived; predeclared = f.predeclared.arrived; filters = f.filters.arrived; expressions = f.expressions.arrived; functions = f.functions.arrived; entries = f.entries.arrived }

decoded_sound : (m : List Record) → Sound m (state m) → Decoded m
decoded_sound m x =
    record {
      gone = x.gone;
      replaced = All-weaker (ReplacedAt (state m).built (state m).opened (state m).body) (Replaced (state m)) (replaced_so (state m)) x.gone x.replaced;
      once = λ w. let a = x.once w in let b = standing_weighs w (state m) in omega arith;
      tables = module_arrived _ (state m).kept (state m).built x.good.built;
      in_bodies =
          let fine = all_bodies (FineBody (state m).kept) (state m).opened (state m).built (state m).body x.good.built.in_functions x.good.built.in_entries x.good.body in
          All-weaker (FineBody (state m).kept) BodyArrived (body_arrived (state m).kept) (bodies (state m)) fine;
    }

pub decoded : (m : List Record) → Accepted start m → Decoded m
decoded m a = decoded_sound m (throughout Sound sound_next m a sound_start)
