use Rattle.std.proofs.Common.{rules}
use Rattle.run_history.proofs.copy_of.Goals as goal

pub returns : goal.returns
returns c = search rules
