use Rattle.arena.specs.Viewing.{viewed}
use Rattle.arena.proofs.Finding.{Searched}
use Rattle.arena.proofs.view.View.find.Given as goal

abbrev pub invariant-loop-place : goal.invariant-loop-place
invariant-loop-place l = Searched (viewed l.self) l.record l.place l.from
