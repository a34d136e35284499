use Rattle.command_line.proofs.Answered.{files-are-few}
use Rattle.command_line.proofs.law.files_are_few.Goals as goal

pub returns : goal.returns
returns c = files-are-few
