use Rattle.std.proofs.Common.{rules}
use Rattle.cell_pool.proofs.spans.Spans.get.Goals as goal

pub returns : goal.returns
returns c = search rules
