use Rattle.std.proofs.Common.{rules}
use Rattle.invariants.proofs.numbered.kind_at.Goals as goal

pub returns-in-1 : goal.returns-in-1
returns-in-1 c = search rules

pub returns-in-2 : goal.returns-in-2
returns-in-2 c = search rules
