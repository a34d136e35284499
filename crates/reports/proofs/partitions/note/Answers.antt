use Rattle.std.proofs.Common.{rules}
use Rattle.reports.proofs.partitions.note.Goals as goal

pub returns : goal.returns
returns c = search rules
