use Rattle.valid.specs.Module.{shown_module}
use Rattle.sealing.proofs.Promised.{checked_inits, checked_results}
use Rattle.seal.proofs.seal.seal_module.Goals as goal

pub seal_sizes-requires : goal.seal_sizes-requires
seal_sizes-requires c = checked_inits (shown_module c.args.«module») c.requires

pub seal_calls-requires : goal.seal_calls-requires
seal_calls-requires c = checked_results (shown_module c.args.«module») c.requires
