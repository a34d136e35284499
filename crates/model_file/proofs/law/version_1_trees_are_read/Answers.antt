use Rattle.model_file.proofs.Former.{former-trees-are-read}
use Rattle.model_file.proofs.Telling.{passes}
use Rattle.model_file.proofs.law.version_1_trees_are_read.Goals as goal

pub returns : goal.returns
returns c = λ bytes m short value shaped first. former-trees-are-read bytes m short value (passes m shaped) first
