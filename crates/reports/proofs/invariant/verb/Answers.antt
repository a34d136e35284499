use Rattle.std.proofs.Common.{rules}
use Rattle.reports.proofs.invariant.verb.Goals as goal

pub returns-in-NF : goal.returns-in-NF
returns-in-NF c = search rules
