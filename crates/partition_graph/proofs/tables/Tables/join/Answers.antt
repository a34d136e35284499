use Rattle.std.proofs.Common.{rules}
use Rattle.partition_graph.proofs.tables.Tables.join.Goals as goal

pub returns-clause-types : goal.returns-clause-types
returns-clause-types c = search rules
