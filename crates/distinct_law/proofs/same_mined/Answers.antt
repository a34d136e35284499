use Rattle.distinct_law.proofs.same_mined.Goals as goal
use Rattle.distinct_law.proofs.SameWords.{same_mined}

pub returns : goal.returns
returns c = same_mined
