use Rattle.std.proofs.Common.{false, ap, ◌∙◌}
use Rattle.std.specs.Iterator.Adapters.{enumerate_count, enumerate_source}
use Rattle.std.specs.Slice.Iter.{iter_rest}
use Rattle.arena.specs.Viewing.{viewed, slot_table, places_left}
use Rattle.arena.proofs.Scanning.{scan_is}
use Rattle.arena.proofs.view.View.places.Goals as goal

pub returns : goal.returns
returns c =
    ap (λ w. places_left c.args.home w false (enumerate_count c.enumerate.result) (iter_rest (enumerate_source c.enumerate.result))) c.table_in.ensures
    ∙ ap (λ n. places_left c.args.home (slot_table c.args.home c.args.table) false n (iter_rest (enumerate_source c.enumerate.result))) c.enumerate.ensures.count
    ∙ ap (places_left c.args.home (slot_table c.args.home c.args.table) false 0) (ap iter_rest c.enumerate.ensures.source ∙ c.iter.ensures.rest ∙ c.kept_slots.ensures)
    ∙ scan_is c.args.home c.args.table (viewed c.args.self) c.args.self.stands.accepted
