use Rattle.std.proofs.Common.{◌≡◌, ◌+◌, ◌*◌, ◌^◌, ◌<◌, ◌≤◌, mul-le-mul_right, length, get_or, ap, ◌∙◌, arith}
use Rattle.promises.specs.Rows.{room, type_rank}
use Rattle.valid.specs.Module.{shown_module}
use Rattle.module_row.proofs.Rooms.{rooms_length, rooms_at, room_least}
use Rattle.module_row.proofs.ranks.Ranks.type_rank.Goals as goal
use Rattle.module_row.proofs.ranks.Ranks.type_rank.Goals.{After-wide}

pub index-room-requires : goal.index-room-requires
index-room-requires c =
    let r = c.args.self.now in
    let l = ap length r.rooms_are ∙ rooms_length (shown_module r.«module») in
    let n = r.rooms.ok.0 in
    omega (arith, c.requires)

-- the room that is read
read : (c : After-wide) → c.index-room.result.now ≡ room (shown_module c.args.self.now.«module») c.args.ty
read c =
    let r = c.args.self.now in
    let n = c.index-room.result.now in
    c.index-room.ensures ∙ ap (λ l. get_or l c.args.ty n) r.rooms_are ∙ rooms_at (shown_module r.«module») c.args.ty n (omega (arith, c.requires))

-- the rank is small
small : (c : After-wide) → c.index-room.result.now * c.wide.result + (2 * c.args.ty + 1) + 1 < 2 ^ 128
small c =
    let r = read c in
    let l = room_least (shown_module c.args.self.now.«module») c.args.ty in
    let f = c.args.self.now.few in
    let w = c.wide.ensures.below in
    let n : c.index-room.result.now ≤ 2 ^ 32 = omega arith in
    let p = mul-le-mul_right c.wide.result n in
    let t = c.ranges.ty.fits in
    omega arith

pub overflow_mul-result : goal.overflow_mul-result
overflow_mul-result c = let s = small (goal.at.overflow_mul-result c).After-wide in record { fits = omega arith }

pub overflow_add-result-2 : goal.overflow_add-result-2
overflow_add-result-2 c = let s = small (goal.at.overflow_add-result-2 c).After-wide in record { fits = omega arith }

pub returns-clause-below : goal.returns-clause-below
returns-clause-below c = small (goal.at.returns-clause-below c).After-wide

pub returns-clause-rank : goal.returns-clause-rank
unfolding type_rank
returns-clause-rank c =
    let r = read (goal.at.returns-clause-rank c).After-wide in
    let a = ap (λ n. n * c.wide.result) r in
    let w = ap (λ n. room (shown_module c.args.self.now.«module») c.args.ty * n) c.wide.ensures.wide in
    omega arith
