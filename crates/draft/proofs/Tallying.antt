-- The counts after one more record are those of the state after it.
use Rattle.std.proofs.Common.{◌≡◌, ℕ, suc, ◌+◌, ◌-◌, ◌<◌, ◌≤◌, true, false, eqb, List, [], ◌∷◌, ◌++◌, length, reverse, get_or, set, replicate, Some, None, Option, sym, refl, ap, ◌∙◌, append_assoc, arith}
use Rattle.std.proofs.lemmas.List.{length_push, length-reverse, reverse-append, set_at, get_or_at}
use Rattle.std.proofs.lemmas.Bool.{leb-false, ne_eqb, cond-false}
use Rattle.ir.specs.declared.kinds.Kind.{Kind}
use Rattle.ir.specs.declared.kinds.Kind.TheVariants as kind
use Rattle.ir.specs.declared.kinds.Statement.{Statement}
use Rattle.ir.specs.declared.kinds.Statement.TheVariants as statement
use Rattle.draft.specs.declared.state.BodyKind.{BodyKind}
use Rattle.draft.specs.declared.state.BodyKind.TheVariants as body_kind
use Rattle.draft.specs.declared.state.Bracket.{Bracket}
use Rattle.draft.specs.declared.state.Bracket.TheVariants as bracket
use Rattle.draft.specs.declared.state.Pieces.{Pieces}
use Rattle.draft.specs.declared.state.SlotTable.{SlotTable}
use Rattle.draft.specs.declared.state.SlotTable.TheVariants as table
use Rattle.draft.specs.declared.manner.Motion.{Motion}
use Rattle.draft.specs.declared.manner.Motion.TheVariants as motion
use Rattle.draft.specs.declared.manner.Turn.{Turn}
use Rattle.draft.specs.declared.manner.Turn.TheVariants.{Keep, Push, Swap, Pop}
use Rattle.draft.specs.declared.counts.Lengths.{Lengths}
use Rattle.draft.specs.Manner.{manner_of, turn_of, statement_motion}
use Rattle.rules.specs.Module.{Record, Module, Body, closed}
use Rattle.draft.specs.State.{State, stepped, item_of, on_side, turned, deepens, innermost, table_in, open_after, number_of_next, waiting_after}
use Rattle.draft.specs.Counting.{stack_of, lengths_of, counts_of, counted, counted_more, moved, top, stacked, turned_stack, waiting_more, advanced}
use Rattle.draft.specs.Stacking.{Turns}
use Rattle.draft.proofs.Stepping.{Admits}

-- a statement begins and ends no body
pub statement_stays : (s : Statement) (o : Option BodyKind) → open_after (statement_motion s) o ≡ o
statement_stays statement.Block o = refl
statement_stays s o = refl

statement_counts : (s : Statement) (x : Lengths) → moved x (statement_motion s) ≡ x
statement_counts statement.Block x = refl
statement_counts s x = refl

module _ (m : Module) (b : Body) (bs : List Bracket) (w : Option Pieces) (ws : List Record) (n u : ℕ) (r : Record) where
  abbrev at : Option BodyKind → State
  at o = record { built = m; opened = o; body = b; brackets = bs; waits = w; waiting = ws; kept = n; used = u }

  lengths_at : (k : Kind) (o : Option BodyKind) → on_side o (manner_of k).side ≡ true → lengths_of (stepped k r (at o)) ≡ moved (counted_more (lengths_of (at o)) (table_in o (manner_of k).table)) (manner_of k).motion
  lengths_at kind.Override o h = cc (length_push m.overrides _)
  lengths_at kind.Constant o h = cc (length_push m.constants _)
  lengths_at kind.GlobalVariable o h = cc (length_push m.globals _)
  lengths_at kind.Filter o h = cc (length_push m.filters _)
  lengths_at kind.Function None h = let e : length m.functions + 1 ≡ length m.functions + 0 + 1 = omega arith in cc
  lengths_at kind.Function (Some k) h = absurd cc
  lengths_at kind.EntryPoint None h = let e : length m.entries + 1 ≡ length m.entries + 0 + 1 = omega arith in cc
  lengths_at kind.EntryPoint (Some k) h = absurd cc
  lengths_at kind.LocalVariable o h = cc (length_push b.locals _)
  lengths_at (kind.Type t) o h = cc (length_push m.types _)
  lengths_at kind.EndFunction None h = absurd cc
  lengths_at kind.EndFunction (Some body_kind.Function) h = let e : length (m.functions ++ closed b (item_of (at (Some body_kind.Function)) r) ∷ []) + 0 ≡ length m.functions + 1 = let l = length_push m.functions (closed b (item_of (at (Some body_kind.Function)) r)) in omega arith in cc
  lengths_at kind.EndFunction (Some body_kind.EntryPoint) h = let e : length (m.entries ++ closed b (item_of (at (Some body_kind.EntryPoint)) r) ∷ []) + 0 ≡ length m.entries + 1 = let l = length_push m.entries (closed b (item_of (at (Some body_kind.EntryPoint)) r)) in omega arith in cc
  lengths_at (kind.Expression e) None h = cc (length_push m.expressions _)
  lengths_at (kind.Expression e) (Some k) h = cc (length_push b.expressions _)
  lengths_at (kind.Statement c) o h = let e : open_after (statement_motion c) o ≡ o = statement_stays c o in let f : moved (lengths_of (at o)) (statement_motion c) ≡ lengths_of (at o) = statement_counts c (lengths_of (at o)) in cc
  lengths_at k o h = refl

pub lengths_after : (s : State) (r : Record) (k : Kind) → on_side s.opened (manner_of k).side ≡ true → lengths_of (stepped k r s) ≡ moved (counted_more (lengths_of s) (table_in s.opened (manner_of k).table)) (manner_of k).motion
lengths_after s r k h = lengths_at s.built s.body s.brackets s.waits s.waiting s.kept s.used r k s.opened h

pub counted_is : (s : State) (t : SlotTable) → counted (lengths_of s) t ≡ number_of_next t s
counted_is s table.Types = refl
counted_is s t = refl

waiting_is : (j : Option Pieces) (ws : List Record) (r : Record) → length (waiting_after j ws r) ≡ waiting_more j (length ws)
waiting_is None ws r = refl
waiting_is (Some p) ws r = length_push ws r

-- the array of one bracket more
cons_places : (b : Bracket) (bs : List Bracket) → (stack_of (b ∷ bs)).places ≡ reverse bs ++ b ∷ replicate (64 - suc (length bs)) bracket.Block
cons_places b bs = ap (λ l. l ++ replicate (64 - suc (length bs)) bracket.Block) (reverse-append (b ∷ []) bs) ∙ append_assoc (reverse bs) (b ∷ []) (replicate (64 - suc (length bs)) bracket.Block)

free_places : (bs : List Bracket) → length bs < 64 → (stack_of bs).places ≡ reverse bs ++ bracket.Block ∷ replicate (64 - suc (length bs)) bracket.Block
free_places bs h = let e : 64 - length bs ≡ suc (64 - suc (length bs)) = omega arith in ap (λ n. reverse bs ++ replicate n bracket.Block) e

pub top_is : (bs : List Bracket) → top (stack_of bs) ≡ innermost bs
top_is [] = refl
top_is (b ∷ bs) =
    let e : suc (length bs) - 1 ≡ length bs = omega arith in
    let some : eqb (suc (length bs)) 0 ≡ false = ne_eqb (suc (length bs)) 0 (λ z. omega arith) in
    cond-false _ _ _ some
    ∙ ap (λ n. Some (get_or (stack_of (b ∷ bs)).places n bracket.Block)) e
    ∙ ap (λ ps. Some (get_or ps (length bs) bracket.Block)) (cons_places b bs)
    ∙ ap Some (get_or_at (reverse bs) b (replicate (64 - suc (length bs)) bracket.Block) bracket.Block (length bs) (length-reverse bs))

pub stacked_is : (bs : List Bracket) (t : Turn) → Turns (length bs) t → stack_of (turned (Some t) bs) ≡ stacked (stack_of bs) t
stacked_is bs Keep h = refl
stacked_is bs (Push x) h =
    let e : (stack_of (x ∷ bs)).places ≡ set (stack_of bs).places (length bs) x = cons_places x bs ∙ sym (ap (λ ps. set ps (length bs) x) (free_places bs h) ∙ set_at (reverse bs) bracket.Block (replicate (64 - suc (length bs)) bracket.Block) x (length bs) (length-reverse bs)) in
    let f : suc (length bs) ≡ length bs + 1 = omega arith in
    cc
stacked_is [] (Swap x) h = absurd (omega arith)
stacked_is (y ∷ bs) (Swap x) h =
    let n : suc (length bs) - 1 ≡ length bs = omega arith in
    let e : (stack_of (x ∷ bs)).places ≡ set (stack_of (y ∷ bs)).places (suc (length bs) - 1) x = cons_places x bs ∙ sym (ap (λ k. set (stack_of (y ∷ bs)).places k x) n ∙ ap (λ ps. set ps (length bs) x) (cons_places y bs) ∙ set_at (reverse bs) y (replicate (64 - suc (length bs)) bracket.Block) x (length bs) (length-reverse bs)) in
    cc
stacked_is [] Pop h = absurd (omega arith)
stacked_is (y ∷ bs) Pop h =
    let n : suc (length bs) - 1 ≡ length bs = omega arith in
    let l : length bs < 64 = omega arith in
    let e : (stack_of bs).places ≡ set (stack_of (y ∷ bs)).places (suc (length bs) - 1) bracket.Block = free_places bs l ∙ sym (ap (λ k. set (stack_of (y ∷ bs)).places k bracket.Block) n ∙ ap (λ ps. set ps (length bs) bracket.Block) (cons_places y bs) ∙ set_at (reverse bs) y (replicate (64 - suc (length bs)) bracket.Block) bracket.Block (length bs) (length-reverse bs)) in
    cc

-- outside of every bracket none turns or ends
none_swaps : (m : Motion) (b : Bracket) → turn_of None m ≡ Some (Swap b) → ⊥
none_swaps motion.Stay b h = absurd cc
none_swaps m b h = absurd cc

none_pops : (m : Motion) → turn_of None m ≡ Some Pop → ⊥
none_pops motion.Stay h = absurd cc
none_pops m h = absurd cc

pub turns_fit : (bs : List Bracket) (m : Motion) (t : Turn) → turn_of (innermost bs) m ≡ Some t → deepens (Some t) (length bs) ≡ false → length bs ≤ 64 → Turns (length bs) t
turns_fit bs m Keep e d h = h
turns_fit bs m (Push b) e d h = leb-false 64 (length bs) d
turns_fit [] m (Swap b) e d h = absurd (none_swaps m b e)
turns_fit (x ∷ bs) m (Swap b) e d h = (omega arith, h)
turns_fit [] m Pop e d h = absurd (none_pops m e)
turns_fit (x ∷ bs) m Pop e d h = (omega arith, h)

turned_is : (bs : List Bracket) (m : Motion) (t : Option Turn) → turn_of (innermost bs) m ≡ t → deepens t (length bs) ≡ false → length bs ≤ 64 → stack_of (turned t bs) ≡ turned_stack (stack_of bs) t
turned_is bs m None e d h = refl
turned_is bs m (Some t) e d h = stacked_is bs t (turns_fit bs m t e d h)

pub counts_after : (s : State) (r : Record) (k : Kind) → Admits s r k → length s.brackets ≤ 64 → counts_of (stepped k r s) ≡ advanced (counts_of s) (length r) (manner_of k)
counts_after s r k a deep =
    let l : lengths_of (stepped k r s) ≡ moved (counted_more (lengths_of s) (table_in s.opened (manner_of k).table)) (manner_of k).motion = lengths_after s r k a.on_its_side in
    let t = turned_is s.brackets (manner_of k).motion (turn_of (innermost s.brackets) (manner_of k).motion) refl a.shallow deep in
    let u = ap (λ o. turned_stack (stack_of s.brackets) (turn_of o (manner_of k).motion)) (top_is s.brackets) in
    let v : stack_of (turned (turn_of (innermost s.brackets) (manner_of k).motion) s.brackets) ≡ turned_stack (stack_of s.brackets) (turn_of (top (stack_of s.brackets)) (manner_of k).motion) = t ∙ sym u in
    let w = waiting_is (manner_of k).joins s.waiting r in
    cc
