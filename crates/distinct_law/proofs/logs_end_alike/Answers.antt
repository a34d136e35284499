use Rattle.distinct_law.proofs.logs_end_alike.Goals as goal
use Rattle.distinct_law.proofs.Ends.{logs_end_alike}

pub returns : goal.returns
returns c = logs_end_alike
