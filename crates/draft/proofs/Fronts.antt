-- The records that wait are the last of the kept ones, and without them the state is as it was.
use Rattle.std.proofs.Common.{◌≡◌, ◌+◌, ◌-◌, ◌≤◌, List, [], ◌∷◌, ◌++◌, length, take, sym, refl, ap, ◌∙◌, append_assoc, append-nil, arith, length-append, None}
use Rattle.std.proofs.lemmas.List.{take_at}
use Rattle.ir.specs.declared.kinds.Kind.{Kind}
use Rattle.ir.specs.declared.kinds.Kind.TheVariants as kind
use Rattle.draft.specs.Manner.{manner_of}
use Rattle.rules.specs.Module.{Record}
use Rattle.draft.specs.State.{State, start, step, stepped, state, waiting_after}
use Rattle.draft.specs.Admitted.{image, Accepted}
use Rattle.draft.proofs.Stepping.{Admits, step_is, state_push, throughout, image_more}

-- the state of these records, where nothing waits
abbrev pub bare : State → List Record → State
bare s front = record s { waits = None; waiting = []; kept = length front; used = length (image front) }

pub record Fronted (m : List Record) (s : State) : Type 0 where
  pub is : state m ≡ s
  pub used_is : s.used ≡ length (image m)
  pub kept_is : s.kept ≡ length m
  pub front : List Record
  pub parts : front ++ s.waiting ≡ m
  pub before : state front ≡ bare s front

module _ (m : List Record) (s : State) (r : Record) (f : Fronted m s) where
  is_next : (k : Kind) → Admits s r k → state (m ++ r ∷ []) ≡ stepped k r s
  is_next k a = state_push m r ∙ ap (λ t. step t r) f.is ∙ step_is s r k a.kind_is

  used_next : s.used + length r ≡ length (image (m ++ r ∷ []))
  used_next = ap (λ n. n + length r) f.used_is ∙ sym (image_more m r)

  kept_next : s.kept + 1 ≡ length (m ++ r ∷ [])
  kept_next = ap (λ n. n + 1) f.kept_is ∙ sym (length-append m (r ∷ []))

  plain_next : (k : Kind) → Admits s r k → (manner_of k).joins ≡ None → Fronted (m ++ r ∷ []) (stepped k r s)
  plain_next k a free =
      let none : waiting_after (manner_of k).joins s.waiting r ≡ [] = ap (λ w. waiting_after w s.waiting r) free in
      record {
        is = is_next k a;
        used_is = used_next;
        kept_is = kept_next;
        front = m ++ r ∷ [];
        parts = ap (λ w. (m ++ r ∷ []) ++ w) none ∙ append-nil (m ++ r ∷ []);
        before = is_next k a ∙ (let u = used_next in let n = kept_next in cc);
      }

  joined : f.front ++ (s.waiting ++ r ∷ []) ≡ m ++ r ∷ []
  joined = sym (append_assoc f.front s.waiting (r ∷ [])) ∙ ap (λ l. l ++ r ∷ []) f.parts

  waits_next : (k : Kind) → Admits s r k → (stepped k r s).waiting ≡ s.waiting ++ r ∷ [] → bare (stepped k r s) f.front ≡ bare s f.front → Fronted (m ++ r ∷ []) (stepped k r s)
  waits_next k a ws same = record { is = is_next k a; used_is = used_next; kept_is = kept_next; front = f.front; parts = ap (λ l. f.front ++ l) ws ∙ joined; before = f.before ∙ sym same }

  fronted_next : (k : Kind) → Admits s r k → Fronted (m ++ r ∷ []) (stepped k r s)
  fronted_next kind.Member a = waits_next kind.Member a refl refl
  fronted_next kind.Operand a = waits_next kind.Operand a refl refl
  fronted_next k a = plain_next k a refl

pub fronted_so : (m : List Record) → Accepted start m → Fronted m (state m)
unfolding state
fronted_so m a = throughout Fronted (λ l s r k ad f. fronted_next l s r f k ad) m a (record { is = refl; used_is = refl; kept_is = refl; front = []; parts = refl; before = refl })

-- what is left where the records that wait go
pub front_is : (m : List Record) (s : State) (f : Fronted m s) → take (length m - length s.waiting) m ≡ f.front
front_is m s f =
    let n : length m - length s.waiting ≡ length f.front = let e = ap length f.parts in let l = length-append f.front s.waiting in omega arith in
    ap (λ k. take k m) n ∙ ap (take (length f.front)) (sym f.parts) ∙ take_at f.front s.waiting (length f.front) refl

pub waiting_within : (m : List Record) (s : State) (f : Fronted m s) → length s.waiting ≤ length m
waiting_within m s f = let e = ap length f.parts in let l = length-append f.front s.waiting in omega arith
