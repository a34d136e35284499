use Rattle.std.proofs.Common.{rules}
use Rattle.splitter.proofs.refining.is_known.Goals as goal

pub returns-then-k-known : goal.returns-then-k-known
returns-then-k-known c = search rules
