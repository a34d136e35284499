use Rattle.partition_graph.proofs.Starting.{start-typed}
use Rattle.partition_graph.proofs.law.starts_are_typed.Goals as goal

pub returns : goal.returns
returns c = start-typed
