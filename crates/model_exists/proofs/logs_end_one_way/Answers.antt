use Rattle.model_exists.proofs.logs_end_one_way.Goals as goal
use Rattle.model_exists.proofs.Ends.{logs_end_one_way}

pub returns : goal.returns
returns c = logs_end_one_way
