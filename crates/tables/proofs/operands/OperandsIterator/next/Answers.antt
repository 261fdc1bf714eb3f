use Rattle.std.proofs.Common.{length, ap, ◌∙◌, sym, arith}
use Rattle.std.specs.List.{flat_map}
use Rattle.records.specs.Handles.{handles_of}
use Rattle.records.specs.Gathered.{handles_left}
use Rattle.tables.specs.Operands.{others_left}
use Rattle.tables.proofs.Numbers.{number_found, next_looked}
use Rattle.tables.proofs.operands.OperandsIterator.next.Goals as goal

pub returns-in-Some-clause-steps : goal.returns-in-Some-clause-steps
returns-in-Some-clause-steps c =
    let s = c.loop-number.self in
    sym c.loop-number.invariant ∙ number_found s.table (handles_left s.handles) (flat_map handles_of (others_left s.others)) c.in-Some.number (handles_left c.next_number.new.handles) c.in-Some.ensures

pub returns-in-Some-clause-goes : goal.returns-in-Some-clause-goes
returns-in-Some-clause-goes c = let s = ap length (returns-in-Some-clause-steps c) in record { on = λ _. (tt, tt, omega arith); keeps = tt; rests = λ _. tt }

pub loop-number-preserved : goal.loop-number-preserved
loop-number-preserved c =
    let s = c.loop-number.self in
    next_looked s.table (handles_left s.handles) (handles_left c.handles-self.result) (others_left s.others) (others_left c.next.new.self) c.in_ok-record.record.bytes.now c.in_default.ensures.0 c.in_ok-record.ensures.steps c.handles-self.ensures
    ∙ c.loop-number.invariant
