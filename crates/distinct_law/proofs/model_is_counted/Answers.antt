use Rattle.distinct_law.proofs.model_is_counted.Goals as goal
use Rattle.distinct_law.proofs.Models.{model_is_counted}

pub returns : goal.returns
returns c = model_is_counted
