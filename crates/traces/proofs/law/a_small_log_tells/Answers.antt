-- The log computes.
use Rattle.std.proofs.Common.{refl}
use Rattle.traces.proofs.law.a_small_log_tells.Goals as goal

pub returns : goal.returns
returns c = refl
