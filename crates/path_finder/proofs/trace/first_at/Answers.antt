use Rattle.std.proofs.Common.{arith}
use Rattle.path_finder.proofs.trace.first_at.Goals as goal

pub entry-requires : goal.entry-requires
entry-requires c = omega (arith, c.loop-first.invariant.within)
