use Rattle.std.proofs.Common.{rules}
use Rattle.invariants.proofs.monitor.Monitor.bad.Goals as goal

pub returns-in-AF : goal.returns-in-AF
returns-in-AF c = search rules
