use Rattle.std.proofs.Common.{rules}
use Rattle.command_line.proofs.given.given_of.Goals as goal

pub returns : goal.returns
returns c = search rules
