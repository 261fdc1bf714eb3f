use Rattle.std.proofs.Common.{◌≡◌, ℕ, ◌-◌, List, length, take, Ok, Option, sym, ap, ◌∙◌}
use Rattle.std.proofs.lemmas.Result.{err_from_is_err_and}
use Rattle.rules.specs.Module.{Record}
use Rattle.draft.specs.State.{state}
use Rattle.draft.specs.Counting.{freed}
use Rattle.draft.specs.Admitted.{image}
use Rattle.arena.specs.Put.{known}
use Rattle.laws.proofs.Lawful.{lawful}
use Rattle.arena.proofs.Placing.{depth_within, free_now}
use Rattle.arena.proofs.Putting.{waiting_kept, admitted_so, put_refused, put_type, put_new, put_other, kept_nothing, kept_front, kept_like}
use Rattle.arena.proofs.Draft.put.Goals as goal
use Rattle.arena.proofs.Draft.put.Goals.{in-Types+in_default-find, in_default}

-- what a view finds is known of the records that it shows
seen : {l m : List Record} (r : Record) {o : Option ℕ} → l ≡ m → o ≡ known (state l) r → known (state m) r ≡ o
seen r same e = sym (e ∙ ap (λ m. known (state m) r) same)

-- and what waits begins where it does in those
begins : {l m : List Record} {n : ℕ} → l ≡ m → n ≡ length (image (take (length l - length (state l).waiting) l)) → n ≡ length (image (take (length m - length (state m).waiting) m))
begins same e = e ∙ ap (λ m. length (image (take (length m - length (state m).waiting) m))) same

pub admit-requires : goal.admit-requires
admit-requires c = depth_within c.requires

pub returns-in_err-kind : goal.returns-in_err-kind
returns-in_err-kind c =
    let p = err_from_is_err_and c.from_residual.result c.from_residual.ensures.1 in
    record {
      kept = rw (p.1, p.2) (kept_nothing c.requires _ (put_refused _ _ _ _ _ (admitted_so c.requires c.args.record.now _ c.in_err-kind.ensures)));
      free = free_now c.requires;
      lawful = lawful _ c.requires.accepted;
    }

pub free-requires : goal.free-requires
free-requires c = waiting_kept c.requires

pub returns-in-Some : goal.returns-in-Some
returns-in-Some c =
    let kept = kept_front c.requires _ _ c.free.new.self.counts c.item.ensures (c.free.ensures ∙ ap (freed c.args.self.now.counts) (begins c.view-view.ensures.shows c.waiting_start-start.ensures)) (put_type _ _ _ _ c.in_ok-kind.kind (admitted_so c.requires c.args.record.now (Ok c.in_ok-kind.kind) c.in_ok-kind.ensures) (ap (λ w. w.table) (sym c.manner.ensures) ∙ c.in-Types.is) _ (seen c.args.record.now c.view-view.ensures.shows c.find.ensures ∙ c.in-Some.is)) in
    record { kept = kept; free = free_now kept.stands; lawful = lawful _ kept.stands.accepted }

pub append-requires : goal.append-requires
append-requires c = record { stands = c.requires; sound = admitted_so c.requires c.args.record.now (Ok c.in_ok-kind.kind) c.in_ok-kind.ensures }

pub returns : goal.returns
returns c =
    let admitted = (admitted_so c.requires c.args.record.now (Ok c.in_ok-kind.kind) c.in_ok-kind.ensures) in
    let kept = c.append.ensures in
    record {
      free = free_now kept.stands;
      lawful = lawful _ kept.stands.accepted;
      kept = kept_like (elim c.match-manner.branch [
        | in-Types+in_default-find w ↦ put_new _ _ _ _ c.in_ok-kind.kind admitted (ap (λ w. w.table) (sym c.manner.ensures) ∙ w.in-Types.is) (seen c.args.record.now w.view-view.ensures.shows w.find.ensures ∙ w.in_default-find.is)
        | in_default w ↦ put_other _ _ _ _ c.in_ok-kind.kind admitted (λ e. w.in_default.not-Types (ap (λ w. w.table) c.manner.ensures ∙ e))
      ]) kept;
    }
