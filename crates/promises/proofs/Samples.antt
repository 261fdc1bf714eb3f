-- The small drafts.
use Rattle.std.proofs.Common.{◌≡◌, ℕ, List, [], refl, arith}
use Rattle.rules.specs.Module.{Item}
use Rattle.draft.specs.State.{step, state}
use Rattle.arena.specs.Put.{put_def}
use Rattle.promises.specs.Rows.{RowItem, PointsTo, IsModuleRow, wide, type_rank, expression_rank, row}
use Rattle.promises.specs.Samples.{array, override, constant, constant_value, SmallDrafts, SizedRow, ring, RingHasNoRow}

pub small_drafts : SmallDrafts
unfolding put_def state step
small_drafts = record {
  first_type = refl;
  same_type = refl;
  other_type = refl;
  empty_range = record { kept_all = refl; check_is = refl; seal_is = refl };
  turned_range = record { kept_all = refl; check_is = refl; seal_is = refl };
  own_gradient = record { kept_all = refl; check_is = refl; seal_is = refl };
  earlier_gradient = record { kept_all = refl; check_is = refl; seal_is = refl };
  sized = record { kept_all = refl; check_is = refl; seal_is = refl };
  sized_by_its_zero = record { kept_all = refl; check_is = refl; seal_is = refl };
  sized_by_its_constant = record { kept_all = refl; check_is = refl; seal_is = refl };
  no_type = record { kept_all = refl; check_is = refl; seal_is = refl };
  own_operand = record { kept_all = refl; check_is = refl; seal_is = refl };
  own_call = record { kept_all = refl; check_is = refl; seal_is = refl };
  own_result = record { kept_all = refl; check_is = refl; seal_is = refl };
  result_of_function = record { kept_all = refl; check_is = refl; seal_is = refl };
  global_local = record { kept_all = refl; check_is = refl; seal_is = refl };
}

pub sized_row : SizedRow
unfolding put_def state step row wide type_rank expression_rank
sized_row = refl

-- round the ring

alone : ℕ → List ℕ → Item
alone n bytes = record { place = n; bytes = bytes; taken = [] }

to_override : PointsTo ring (RowItem.type 1) (RowItem.override 0)
unfolding put_def state step alone
to_override = (alone 2 array, refl, (1, refl))

to_expression : PointsTo ring (RowItem.override 0) (RowItem.expression 1)
unfolding put_def state step alone
to_expression = (alone 1 (override 0 1), refl, (1, refl))

to_constant : PointsTo ring (RowItem.expression 1) (RowItem.constant 0)
unfolding put_def state step alone
to_constant = (alone 5 (constant_value 0), refl, (0, refl))

to_type : PointsTo ring (RowItem.constant 0) (RowItem.type 1)
unfolding put_def state step alone
to_type = (alone 4 (constant 1 0), refl, (0, refl))

ring_has_no_row : (row : List RowItem) → IsModuleRow ring row → ⊥
unfolding put_def state step
ring_has_no_row row r =
    let a = r.each (RowItem.type 1) (omega arith) in
    let b = r.after a.0 (RowItem.type 1) (RowItem.override 0) a.1 to_override in
    let c = r.after b.0 (RowItem.override 0) (RowItem.expression 1) b.2 to_expression in
    let d = r.after c.0 (RowItem.expression 1) (RowItem.constant 0) c.2 to_constant in
    let e = r.after d.0 (RowItem.constant 0) (RowItem.type 1) d.2 to_type in
    let same : a.0 ≡ e.0 = r.once a.0 e.0 (RowItem.type 1) a.1 e.2 in
    let l1 = b.1 in
    let l2 = c.1 in
    let l3 = d.1 in
    let l4 = e.1 in
    absurd (omega arith)

pub ring_without_row : RingHasNoRow
unfolding put_def state step
ring_without_row = record {
  check_passes = refl;
  globals_pass = search;
  others_pass = search;
  no_row = ring_has_no_row;
}
