use Rattle.distinct_law.proofs.same_valid.Goals as goal
use Rattle.distinct_law.proofs.SameWords.{same_valid}

pub returns : goal.returns
returns c = same_valid
