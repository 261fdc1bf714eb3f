use Rattle.promises.proofs.Samples.{small_drafts, sized_row, ring_without_row}
use Rattle.promises.proofs.small.small_drafts.Goals as goal

pub returns-clause-drafts : goal.returns-clause-drafts
returns-clause-drafts c = small_drafts

pub returns-clause-row : goal.returns-clause-row
returns-clause-row c = sized_row

pub returns-clause-ring : goal.returns-clause-ring
returns-clause-ring c = ring_without_row
