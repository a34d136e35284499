use Rattle.std.proofs.Common.{rules}
use Rattle.cell_pool.proofs.spans.Spans.push.Goals as goal

pub returns-then-numbers-self-clause-push : goal.returns-then-numbers-self-clause-push
returns-then-numbers-self-clause-push c = search rules

pub returns-then-numbers-self-clause-stays : goal.returns-then-numbers-self-clause-stays
returns-then-numbers-self-clause-stays c = search rules
