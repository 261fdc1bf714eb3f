-- One record more: what it does to the state, and what holds along the way.
use Rattle.std.proofs.Common.{◌≡◌, ◌+◌, ◌≤◌, Bool, true, false, cond, List, [], ◌∷◌, ◌++◌, length, is_ok, is_some, Some, None, Ok, Err, fold, Option, Result, sym, refl, ap, ◌∙◌, subst, append_assoc, append-nil, arith, length-append}
use Rattle.std.proofs.lemmas.List.Sums.{fold_push}
use Rattle.std.proofs.lemmas.Bool.{leb-false, and_parts}
use Rattle.std.proofs.lemmas.Grind.{flat_map-append}
use Rattle.ir.specs.declared.kinds.Kind.{Kind}
use Rattle.records.specs.declared.judge.Flaw.{Flaw}
use Rattle.records.specs.Record.{judged}
use Rattle.draft.specs.declared.refusal.Refusal.{Refusal}
use Rattle.draft.specs.declared.refusal.Refusal.TheVariants.{Misplaced, TooDeep}
use Rattle.draft.specs.declared.state.BodyKind.{BodyKind}
use Rattle.draft.specs.declared.state.Bracket.{Bracket}
use Rattle.draft.specs.declared.manner.Side.TheVariants as side
use Rattle.draft.specs.declared.manner.Turn.{Turn}
use Rattle.draft.specs.declared.manner.Turn.TheVariants.{Keep, Push, Swap, Pop}
use Rattle.draft.specs.Manner.{manner_of, turn_of}
use Rattle.rules.specs.Module.{Record}
use Rattle.draft.specs.State.{State, start, step, step_judged, stepped, state, in_place, too_deep, turned, deepens, innermost, waiting_after, meets, on_side}
use Rattle.draft.specs.Admitted.{image, admitted, admitted_with, Accepted}

pub step_is : (s : State) (r : Record) (k : Kind) → judged r ≡ Ok k → step s r ≡ stepped k r s
unfolding step
step_is s r k e = ap (λ j. step_judged j s r) e

pub state_push : (m : List Record) (r : Record) → state (m ++ r ∷ []) ≡ step (state m) r
unfolding state
state_push m r = fold_push step start m r

-- what an admitted record is: judged well, one that what waits allows, on its side of a body, and fit for the brackets
pub record Admits (s : State) (r : Record) (k : Kind) : Type 0 where
  pub kind_is : judged r ≡ Ok k
  pub allowed : meets s.waits (manner_of k) ≡ true
  pub on_its_side : on_side s.opened (manner_of k).side ≡ true
  pub turns : is_some (turn_of (innermost s.brackets) (manner_of k).motion) ≡ true
  pub shallow : too_deep s k ≡ false

placed_is : (b c : Bool) (j k : Kind) → cond b (cond c (Err TooDeep) (Ok j)) (Err Misplaced) ≡ Ok k → (b ≡ true) × (c ≡ false) × (j ≡ k)
placed_is true true j k h = absurd cc
placed_is true false j k h = (refl, refl, cc)
placed_is false c j k h = absurd cc

admits_judged : (s : State) (f : Result Kind Flaw) (k : Kind) → admitted_with s.waits s.opened (innermost s.brackets) (length s.brackets) f ≡ Ok k → (f ≡ Ok k) × (in_place s k ≡ true) × (too_deep s k ≡ false)
admits_judged s (Err e) k h = absurd cc
admits_judged s (Ok j) k h =
    let p = placed_is (in_place s j) (too_deep s j) j k h in
    (ap Ok p.2, subst (λ x. in_place s x ≡ true) p.2 p.0, subst (λ x. too_deep s x ≡ false) p.2 p.1)

pub admits : (s : State) (r : Record) (k : Kind) → admitted s r ≡ Ok k → Admits s r k
admits s r k h =
    let p = admits_judged s (judged r) k h in
    let q = and_parts (meets s.waits (manner_of k)) _ p.1 in
    let t = and_parts (on_side s.opened (manner_of k).side) _ q.1 in
    record { kind_is = p.0; allowed = q.0; on_its_side = t.0; turns = t.1; shallow = p.2 }

ok_is : (f : Result Kind Refusal) → is_ok f ≡ true → (k : Kind) × (f ≡ Ok k)
ok_is (Ok k) h = (k, refl)
ok_is (Err e) h = absurd cc

pub admitted_kind : (s : State) (r : Record) → is_ok (admitted s r) ≡ true → (k : Kind) × Admits s r k
admitted_kind s r h = let p = ok_is (admitted s r) h in (p.0, admits s r p.0 p.1)

-- what each record keeps holds of the state of all
module _ (R : List Record → State → Type 0) (more : (m : List Record) (s : State) (r : Record) (k : Kind) → Admits s r k → R m s → R (m ++ r ∷ []) (stepped k r s)) where
  along : (before m : List Record) (s : State) → Accepted s m → R before s → R (before ++ m) (fold step s m)
  along before [] s a x = subst (λ l. R l s) (sym (append-nil before)) x
  along before (r ∷ m) s a x =
      let p = admitted_kind s r a.0 in
      let next : R (before ++ r ∷ []) (step s r) = subst (R (before ++ r ∷ [])) (sym (step_is s r p.0 p.1.kind_is)) (more before s r p.0 p.1 x) in
      subst (λ l. R l (fold step (step s r) m)) (append_assoc before (r ∷ []) m) (along (before ++ r ∷ []) m (step s r) a.1 next)

  pub throughout : (m : List Record) → Accepted start m → R [] start → R m (state m)
  unfolding state
  throughout m a x = along [] m start a x

pub accepted_push : (s : State) (m : List Record) (r : Record) → Accepted s m → is_ok (admitted (fold step s m) r) ≡ true → Accepted s (m ++ r ∷ [])
accepted_push s [] r a h = (h, tt)
accepted_push s (x ∷ m) r a h = (a.0, accepted_push (step s x) m r a.1 h)

pub accepted_more : (m : List Record) (r : Record) → Accepted start m → is_ok (admitted (state m) r) ≡ true → Accepted start (m ++ r ∷ [])
unfolding state
accepted_more m r a h = accepted_push start m r a h

pub accepted_front : (s : State) (m n : List Record) → Accepted s (m ++ n) → Accepted s m
accepted_front s [] n a = tt
accepted_front s (x ∷ m) n a = (a.0, accepted_front (step s x) m n a.1)

-- a record that stands outside of bodies comes where none is open
pub outside_only : (o : Option BodyKind) → on_side o side.Outside ≡ true → o ≡ None
outside_only None h = refl
outside_only (Some k) h = absurd cc

pub image_append : (m n : List Record) → image (m ++ n) ≡ image m ++ image n
image_append m n = flat_map-append (λ r. r) m n

pub image_push : (m : List Record) (r : Record) → image (m ++ r ∷ []) ≡ image m ++ r
image_push m r = image_append m (r ∷ []) ∙ ap (λ b. image m ++ b) (append-nil r)

pub image_more : (m : List Record) (r : Record) → length (image (m ++ r ∷ [])) ≡ length (image m) + length r
image_more m r = ap length (image_push m r) ∙ length-append (image m) r

turned_deep : (t : Option Turn) (bs : List Bracket) → deepens t (length bs) ≡ false → length bs ≤ 64 → length (turned t bs) ≤ 64
turned_deep None bs e h = h
turned_deep (Some Keep) bs e h = h
turned_deep (Some (Push b)) bs e h = let l = leb-false 64 (length bs) e in omega arith
turned_deep (Some (Swap b)) [] e h = omega arith
turned_deep (Some (Swap b)) (c ∷ bs) e h = h
turned_deep (Some Pop) [] e h = h
turned_deep (Some Pop) (c ∷ bs) e h = omega arith

-- what the counts of a state say of its records
pub record Counted (m : List Record) (s : State) : Type 0 where
  pub used_is : s.used ≡ length (image m)
  pub kept_is : s.kept ≡ length m
  pub deep : length s.brackets ≤ 64
  pub idle : s.waits ≡ None → s.waiting ≡ []

counted_more : (m : List Record) (s : State) (r : Record) (k : Kind) → Admits s r k → Counted m s → Counted (m ++ r ∷ []) (stepped k r s)
counted_more m s r k a c = record {
  used_is = ap (λ n. n + length r) c.used_is ∙ sym (image_more m r);
  kept_is = ap (λ n. n + 1) c.kept_is ∙ sym (length-append m (r ∷ []));
  deep = turned_deep (turn_of (innermost s.brackets) (manner_of k).motion) s.brackets a.shallow c.deep;
  idle = λ e. ap (λ j. waiting_after j s.waiting r) e;
}

pub counted_so : (m : List Record) → Accepted start m → Counted m (state m)
counted_so m a = throughout Counted counted_more m a (record { used_is = refl; kept_is = refl; deep = omega arith; idle = λ e. refl })
