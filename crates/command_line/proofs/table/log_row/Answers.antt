use Rattle.std.proofs.Common.{rules}
use Rattle.command_line.proofs.table.log_row.Goals as goal

pub returns : goal.returns
returns c = search rules
