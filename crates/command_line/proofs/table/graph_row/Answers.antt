use Rattle.std.proofs.Common.{rules}
use Rattle.command_line.proofs.table.graph_row.Goals as goal

pub returns-in-false : goal.returns-in-false
returns-in-false c = search rules
