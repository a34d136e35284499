use Rattle.partition_graph.proofs.Counting.{clear-room}
use Rattle.partition_graph.proofs.CountSteps.{counted-alone}
use Rattle.partition_graph.proofs.tables.Tables.open.Goals as goal

pub count-requires-clause-room : goal.count-requires-clause-room
count-requires-clause-room c = clear-room c.in_ok-tables.tables c.args.cells.now c.in_ok-tables.ensures c.requires.ids c.requires.few

pub returns : goal.returns
returns c = counted-alone c.in_ok-tables.tables c.count.new.self c.args.cells.now c.in_ok-tables.ensures c.count.ensures
