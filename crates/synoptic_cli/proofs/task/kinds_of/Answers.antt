use Rattle.std.proofs.Common.{rules}
use Rattle.synoptic_cli.proofs.task.kinds_of.Goals as goal

pub returns-else-task : goal.returns-else-task
returns-else-task c = search rules
