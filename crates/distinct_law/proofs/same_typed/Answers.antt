use Rattle.distinct_law.proofs.same_typed.Goals as goal
use Rattle.distinct_law.proofs.SameWords.{same_typed}

pub returns : goal.returns
returns c = same_typed
