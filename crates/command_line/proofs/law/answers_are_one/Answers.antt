use Rattle.command_line.proofs.Answered.{answers-are-one}
use Rattle.command_line.proofs.law.answers_are_one.Goals as goal

pub returns : goal.returns
returns c = answers-are-one
