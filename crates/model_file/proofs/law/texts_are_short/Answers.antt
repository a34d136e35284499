use Rattle.model_file.proofs.Limit.{texts-are-short}
use Rattle.model_file.proofs.Telling.{passes}
use Rattle.model_file.proofs.law.texts_are_short.Goals as goal

pub returns : goal.returns
returns c = λ m shaped. texts-are-short m (passes m shaped)
