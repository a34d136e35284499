use Rattle.model_reader.proofs.Answered.{answers-are-one}
use Rattle.model_reader.proofs.law.answers_are_one.Goals as goal

pub returns : goal.returns
returns c = answers-are-one
