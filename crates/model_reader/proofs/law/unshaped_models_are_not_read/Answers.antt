use Rattle.model_reader.proofs.Answered.{empty-is-not-read, unshaped-are-not-read}
use Rattle.model_reader.proofs.law.unshaped_models_are_not_read.Goals as goal

pub returns-clause-models : goal.returns-clause-models
returns-clause-models c = unshaped-are-not-read c.read_is_well_shaped.ensures

pub returns-clause-empty : goal.returns-clause-empty
returns-clause-empty c = empty-is-not-read c.read_is_well_shaped.ensures
