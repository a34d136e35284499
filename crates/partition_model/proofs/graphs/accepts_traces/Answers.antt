use Rattle.partition_model.proofs.graphs.accepts_traces.Goals as goal
use Rattle.partition_model.proofs.Following.{accepts_traces}

pub returns : goal.returns
returns c = accepts_traces
