use Rattle.model_file.proofs.Telling.{rules-tell}
use Rattle.model_file.proofs.law.rules_tell.Goals as goal

pub returns : goal.returns
returns c = rules-tell
