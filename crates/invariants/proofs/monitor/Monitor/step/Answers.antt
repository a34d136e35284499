use Rattle.std.proofs.Common.{rules}
use Rattle.invariants.proofs.monitor.Monitor.step.Goals as goal

pub returns-in-IB-3-clause-value : goal.returns-in-IB-3-clause-value
returns-in-IB-3-clause-value c = search rules
