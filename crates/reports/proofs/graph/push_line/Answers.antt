use Rattle.std.proofs.Common.{rules}
use Rattle.reports.proofs.graph.push_line.Goals as goal

pub returns : goal.returns
returns c = search rules
