use Rattle.command_line.proofs.Interrupted.{is-of-three}
use Rattle.command_line.proofs.law.interrupted_is_of_three_commands.Goals as goal

pub returns : goal.returns
returns c = is-of-three
