use Rattle.std.proofs.Common.{rules}
use Rattle.command_line.proofs.given.is_for_memory.Goals as goal

pub returns-clause-wanted : goal.returns-clause-wanted
returns-clause-wanted c = search rules

pub returns-clause-other : goal.returns-clause-other
returns-clause-other c = search rules
