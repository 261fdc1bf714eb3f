use Rattle.std.proofs.Common.{◌≡◌, ℕ, ◌+◌, ◌<◌, Bool, true, false, cond, ◌&&◌, List, ◌∷◌, length, drop, get_or, Option, sym, ap, ◌∙◌, arith}
use Rattle.std.proofs.lemmas.List.{length-map, at_drop_more, drop_all}
use Rattle.draft.specs.declared.state.SlotTable.{SlotTable}
use Rattle.draft.specs.State.{state}
use Rattle.arena.specs.declared.slot.Slot.{Slot}
use Rattle.arena.specs.declared.view.Home.{Home}
use Rattle.arena.specs.Viewing.{viewed, items_in, slot_table, enters, among, places_left}
use Rattle.arena.proofs.Scanning.{scan_is}
use Rattle.arena.proofs.view.View.count.Goals as goal
use Rattle.arena.proofs.view.View.count.Goals.{then-inside+then-is_among, else-inside, else-inside-via-then-inside+else-is_among, else-inside-via-else-inside}

-- what a slot adds to the places that are left
one_more : (hit : Bool) (p : ℕ) (ps : List ℕ) → length (cond hit (p ∷ ps) ps) ≡ cond hit 1 0 + length ps
one_more true p ps = let e : length (p ∷ ps) ≡ 1 + length ps = omega arith in e
one_more false p ps = omega arith

left_more : (h : Home) (w : Option SlotTable) (f g : Bool) (p : ℕ) (ss : List Slot) (s : Slot) → p < length ss → g ≡ enters h f (get_or ss p s).table (get_or ss p s).number → length (places_left h w f p (drop p ss)) ≡ cond (g && among w (get_or ss p s).table) 1 0 + length (places_left h w g (p + 1) (drop (p + 1) ss))
left_more h w f g p ss s l is =
    at_drop_more (λ xs. length (places_left h w f p xs)) ss p s l
    ∙ ap (λ y. length (cond (y && among w (get_or ss p s).table) (p ∷ places_left h w y (p + 1) (drop (p + 1) ss)) (places_left h w y (p + 1) (drop (p + 1) ss)))) (sym is)
    ∙ one_more (g && among w (get_or ss p s).table) p (places_left h w g (p + 1) (drop (p + 1) ss))

hit : (g a b : Bool) → g ≡ true → b ≡ true → b ≡ a → cond {A = ℕ} (g && a) 1 0 ≡ 1
hit g a b e f is = cc

missed : (g a b : Bool) → g ≡ true → b ≡ false → b ≡ a → cond {A = ℕ} (g && a) 1 0 ≡ 0
missed g a b e f is = cc

outside : (g a : Bool) (n : ℕ) → g ≡ false → cond {A = ℕ} (g && a) 1 0 + n ≡ n
outside true a n e = absurd cc
outside false a n e = omega arith

left_out : (h : Home) (w : Option SlotTable) (f g : Bool) (p : ℕ) (ss : List Slot) (s : Slot) → p < length ss → g ≡ enters h f (get_or ss p s).table (get_or ss p s).number → g ≡ false → length (places_left h w f p (drop p ss)) ≡ length (places_left h w g (p + 1) (drop (p + 1) ss))
left_out h w f g p ss s l is e = left_more h w f g p ss s l is ∙ outside g (among w (get_or ss p s).table) (length (places_left h w g (p + 1) (drop (p + 1) ss))) e

pub loop-slot-init : goal.loop-slot-init
loop-slot-init c = (omega arith, omega arith)

pub overflow_add-count : goal.overflow_add-count
overflow_add-count c = let few = c.kept_slots-slot-items.type_inv.0 in let b = c.loop-slot.invariant.1 in let l = c.loop-slot-test.true in omega arith

pub loop-slot-preserved : goal.loop-slot-preserved
loop-slot-preserved c =
    let more = left_more c.args.home c.table_in-wanted.result c.loop-slot.inside c.is_inside-inside.result c.loop-slot.slot-index c.kept_slots-slot-items.result.now _ c.loop-slot-test.true c.is_inside-inside.ensures in
    let before = c.loop-slot.invariant.0 in
    let within = c.loop-slot.invariant.1 in
    elim c.if-inside.branch [
      | then-inside+then-is_among w ↦ (let one = hit _ _ _ w.if-inside.true w.if-is_among.true w.is_among.ensures in let is = w.count-is in omega arith, let is = w.count-is in omega arith)
      | else-inside w ↦ elim w.else-inside.branch [
        | else-inside-via-then-inside+else-is_among v ↦ (let none = missed _ _ _ v.if-inside.true v.if-is_among.false v.is_among.ensures in let is = w.count-is in omega arith, let is = w.count-is in omega arith)
        | else-inside-via-else-inside v ↦ (let out = left_out c.args.home c.table_in-wanted.result c.loop-slot.inside c.is_inside-inside.result c.loop-slot.slot-index c.kept_slots-slot-items.result.now _ c.loop-slot-test.true c.is_inside-inside.ensures v.if-inside.false in let is = w.count-is in omega arith, let is = w.count-is in omega arith)
      ]
    ]

pub returns : goal.returns
returns c =
    let all = c.loop-slot.invariant.0 in
    let none = ap (λ xs. length (places_left c.args.home c.table_in-wanted.result c.loop-slot.inside c.loop-slot.slot-index xs)) (drop_all c.loop-slot.slot-index c.kept_slots-slot-items.result.now (omega arith)) in
    let is =
    ap (λ w. length (places_left c.args.home w false 0 c.kept_slots-slot-items.result.now)) c.table_in-wanted.ensures
    ∙ ap (λ xs. length (places_left c.args.home (slot_table c.args.home c.args.table) false 0 xs)) c.kept_slots-slot-items.ensures
    ∙ ap length (scan_is c.args.home c.args.table (viewed c.args.self) c.args.self.stands.accepted)
    ∙ length-map (items_in c.args.home c.args.table (state (viewed c.args.self))) _ in
    omega arith
