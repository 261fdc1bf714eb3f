-- Records put one after the other, up to the first that is refused.
use Rattle.std.specs.Prelude.{ℕ, List, [], ◌∷◌, Ok, Err, Result}
use Rattle.rules.specs.Module.{Record}
use Rattle.draft.specs.declared.refusal.Refusal.{Refusal}
use Rattle.arena.specs.Answer.{Answer}
use Rattle.arena.specs.Put.{put_def}
use Rattle.runs.specs.Runs.{put_kept}

-- a refusal ends it, with the records kept then; else it goes on
abbrev pub unless_refused : Result Answer Refusal → List Record → Result Unit Refusal × List Record → Result Unit Refusal × List Record
unless_refused (Ok a) m later = later
unless_refused (Err e) m later = (Err e, m)

module _ (room places : ℕ) where
  -- puts of records on a draft that has kept m: the first refusal, if there is one, and the records that are kept then
  abbrev pub put_all : List Record → List Record → Result Unit Refusal × List Record
  put_all m [] = (Ok tt, m)
  put_all m (r ∷ rs) = unless_refused (put_def room places m r).0 (put_kept room places m r) (put_all (put_kept room places m r) rs)
