use Rattle.std.proofs.Common.{rules}
use Rattle.command_line.proofs.table.row_of.Goals as goal

pub returns-in-check : goal.returns-in-check
returns-in-check c = search rules

pub returns-in-replay : goal.returns-in-replay
returns-in-replay c = search rules

pub returns-in-infer : goal.returns-in-infer
returns-in-infer c = search rules

pub returns-in-migrate : goal.returns-in-migrate
returns-in-migrate c = search rules
