use Rattle.std.proofs.Common.{◌≡◌, length}
use Rattle.records.specs.Left.{words_left}
use Rattle.records.specs.Gathered.{word_handles}
use Rattle.records.proofs.handles.next_handle.Given as goal

abbrev pub invariant-loop-word : goal.invariant-loop-word
invariant-loop-word l = word_handles l.words ≡ word_handles l.initial.words

abbrev pub decreases-loop-word : goal.decreases-loop-word
decreases-loop-word l = length (words_left l.words)
