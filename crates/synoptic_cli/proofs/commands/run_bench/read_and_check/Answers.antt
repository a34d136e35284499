use Rattle.std.proofs.Common.{rules}
use Rattle.synoptic_cli.proofs.commands.run_bench.read_and_check.Goals as goal

pub returns-in-Ok-checked : goal.returns-in-Ok-checked
returns-in-Ok-checked c = search rules
