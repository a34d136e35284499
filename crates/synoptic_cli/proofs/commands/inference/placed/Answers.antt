use Rattle.std.proofs.Common.{rules}
use Rattle.synoptic_cli.proofs.commands.inference.placed.Goals as goal

pub returns-in_default-clause-err : goal.returns-in_default-clause-err
returns-in_default-clause-err c = search rules
