-- Where sealing accepted, what it promises holds.
use Rattle.std.proofs.Common.{ℕ, List, []}
use Rattle.runs.specs.Runs.{run}
use Rattle.runs.proofs.Staying.{run_accepted}
use Rattle.promises.proofs.Promises.{sealed_promises}
use Rattle.history.specs.declared.calls.Call.{Call}
use Rattle.history.specs.Calls.{puts_of, EachPromise}

pub each_promise : {R T : Type 0} (room places : ℕ) (calls : List (Call R T)) → EachPromise room places calls
each_promise room places calls earlier later c parts sealing accepted = sealed_promises (run room places [] (puts_of earlier)) (run_accepted room places (puts_of earlier)) accepted
