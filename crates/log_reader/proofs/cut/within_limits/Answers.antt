use Rattle.std.proofs.Common.{rules}
use Rattle.log_reader.proofs.cut.within_limits.Goals as goal

pub returns-clause-ok : goal.returns-clause-ok
returns-clause-ok c = search rules
