use Rattle.model_file.proofs.Trees.{trees-are-read}
use Rattle.model_file.proofs.Telling.{passes}
use Rattle.model_file.proofs.law.trees_are_read.Goals as goal

pub returns : goal.returns
returns c = λ bytes m short value shaped. trees-are-read bytes m short value (passes m shaped)
