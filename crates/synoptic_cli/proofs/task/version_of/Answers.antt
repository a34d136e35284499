use Rattle.std.proofs.Common.{rules}
use Rattle.synoptic_cli.proofs.task.version_of.Goals as goal

pub returns-in-Migrate : goal.returns-in-Migrate
returns-in-Migrate c = search rules
