use Rattle.std.proofs.Common.{rules}
use Rattle.clashes.proofs.rules.critical.Goals as goal

pub returns-in-AP : goal.returns-in-AP
returns-in-AP c = search rules
