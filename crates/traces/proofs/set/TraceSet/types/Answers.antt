use Rattle.std.proofs.Common.{subst}
use Rattle.traces.specs.Words.{Log, IsLog}
use Rattle.traces.proofs.set.TraceSet.types.Goals as goal

pub returns-clause-events : goal.returns-clause-events
returns-clause-events c = subst (λ (log : Log). IsLog log) c.self.view_is c.self.invariant.7
