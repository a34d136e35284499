use Rattle.partition_model.proofs.graphs.traces_break_none.Goals as goal
use Rattle.partition_model.proofs.Following.{traces_break_none}

pub returns : goal.returns
returns c = traces_break_none
