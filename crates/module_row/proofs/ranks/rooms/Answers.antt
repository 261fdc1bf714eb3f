use Rattle.std.proofs.Common.{◌≡◌, map, ◌<◌, ◌+◌, ◌∷◌, [], ◌++◌, suc, max, length, take, drop, flat_map, sym, ap, ◌∙◌, subst, arith, length-append, length-drop}
use Rattle.std.proofs.lemmas.List.{take_all}
use Rattle.std.proofs.lemmas.Option.{slice_get_within}
use Rattle.std.specs.List.{AllByRecursion}
use Rattle.std.specs.Option.{option_to_list}
use Rattle.ir.specs.declared.handle.Table.TheVariants as table
use Rattle.rules.specs.Sizes.{sizes}
use Rattle.rules.specs.Items.{init_of, pending_of}
use Rattle.rules.specs.Once.{inits}
use Rattle.row.proofs.Places.{in_from_get}
use Rattle.promises.specs.Inside.{ItemInside}
use Rattle.promises.proofs.Among.{in_all}
use Rattle.promises.proofs.Rows.{own_within}
use Rattle.module_row.proofs.Inits.{all_told, as_long}
use Rattle.items.specs.Item.{shown, items_left}
use Rattle.promises.specs.Rows.{above, room, counted}
use Rattle.valid.specs.Module.{shown_module}
use Rattle.valid.proofs.Typed.{here_of}
use Rattle.module_row.proofs.Counted.{counted_more}
use Rattle.module_row.proofs.Rooms.{max_is, room_next}
use Rattle.module_row.proofs.ranks.rooms.Goals as goal
use Rattle.module_row.proofs.ranks.rooms.Goals.{In-None}

pub loop-ty-init : goal.loop-ty-init
loop-ty-init c =
    let m = shown_module c.args.«module» in
    let n : length c.new-rooms.result.items ≡ 0 = ap length c.new-rooms.ensures.items in (
      tt,
      tt,
      ap items_left c.into_iter-ty-iterator.ensures.into_iter_gives ∙ c.items-ty-items.ensures ∙ ap (λ k. drop k m.types) (sym n),
      omega arith,
      c.new-rooms.ensures.items ∙ ap (counted (room m) 0) (sym n),
      ap (λ k. above (flat_map (inits m) (take k m.types))) (sym n),
      omega arith,
    )

pub loop-ty-preserved : goal.loop-ty-preserved
loop-ty-preserved c =
    let m = shown_module c.args.«module» in
    let k = length c.loop-ty.rooms.items in
    let i = shown c.in-Some.ty in
    let p = here_of m.types k _ _ i c.loop-ty.invariant.2 (c.in-Some.ensures {u = tt}).steps in
    let w = slice_get_within m.types k i p.0 in
    let most : c.max-room.result ≡ max c.loop-ty.room c.waits_for.result = c.max-room.ensures ∙ max_is c.loop-ty.room c.waits_for.result in
    let of : map option_to_list c.as_slice.result.now ≡ map init_of m.overrides = ap (map option_to_list) c.as_slice.ensures.value ∙ c.in_ok-inits.ensures {u = tt} in
    let waited : c.waits_for.result ≡ above (inits m i) = c.waits_for.ensures.above ∙ ap above (all_told option_to_list init_of c.as_slice.result.now m.overrides of (pending_of i)) in
    let room_is : c.max-room.result ≡ room m k =
    most
    ∙ ap (λ n. max n c.waits_for.result) c.loop-ty.invariant.5
    ∙ ap (max (above (flat_map (inits m) (take k m.types)))) waited
    ∙ room_next m k i p.0 in
    let items = (c.in_ok-push.ensures {u = tt}).items in
    let size : length c.push.new.self.items ≡ suc k = let e = ap length items ∙ length-append c.loop-ty.rooms.items (c.max-room.result ∷ []) in omega arith in
    let later : k + 1 ≡ suc k = omega arith in
    let few = c.waits_for.ensures.few in
    let before = c.loop-ty.invariant.6 in (
      tt,
      tt,
      p.1 ∙ ap (λ n. drop n m.types) (later ∙ sym size),
      omega arith,
      items ∙ ap (λ l. l ++ c.max-room.result ∷ []) c.loop-ty.invariant.4 ∙ ap (λ n. counted (room m) 0 k ++ n ∷ []) room_is ∙ counted_more (room m) k ∙ ap (counted (room m) 0) (sym size),
      room_is ∙ ap (λ n. above (flat_map (inits m) (take n m.types))) (sym size),
      omega arith,
    )

-- all types have gone by
all : (c : In-None) → length c.loop-ty.rooms.items ≡ length (shown_module c.args.«module»).types
all c =
    let types = (shown_module c.args.«module»).types in
    let k = length c.loop-ty.rooms.items in
    let e = ap length (sym c.loop-ty.invariant.2 ∙ (c.in-None.ensures {u = tt}).steps.0) in
    let d = length-drop k types in
    let u = c.loop-ty.invariant.3 in
    omega arith

pub returns-clause-rooms : goal.returns-clause-rooms
returns-clause-rooms c = c.loop-ty.invariant.4 ∙ ap (counted (room (shown_module c.args.«module»)) 0) (all (goal.at.returns-clause-rooms c).In-None)

pub returns-clause-few : goal.returns-clause-few
returns-clause-few c =
    let m = shown_module c.args.«module» in
    let n = all (goal.at.returns-clause-few c).In-None in
    let e = ap (λ l. above (flat_map (inits m) l)) (sym (take_all (length c.loop-ty.rooms.items) m.types (omega arith))) ∙ sym c.loop-ty.invariant.5 in
    let few = c.loop-ty.invariant.6 in
    omega arith

pub waits_for-requires : goal.waits_for-requires
waits_for-requires c =
    let m = shown_module c.args.«module» in
    let k = length c.loop-ty.rooms.items in
    let i = shown c.in-Some.ty in
    let p = here_of m.types k _ _ i c.loop-ty.invariant.2 (c.in-Some.ensures {u = tt}).steps in
    let inside = in_all (ItemInside (sizes m)) m.types i c.requires (in_from_get m.types k i p.0) in
    let of : map option_to_list c.as_slice.result.now ≡ map init_of m.overrides = ap (map option_to_list) c.as_slice.ensures.value ∙ c.in_ok-inits.ensures {u = tt} in
    subst (λ n. AllByRecursion (λ o. o < n) (pending_of i)) (sym (as_long option_to_list init_of c.as_slice.result.now m.overrides of)) (own_within table.Overrides (sizes m) i inside)
