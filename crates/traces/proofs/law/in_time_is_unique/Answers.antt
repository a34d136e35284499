use Rattle.traces.proofs.StableOrder.{in_time-unique}
use Rattle.traces.proofs.law.in_time_is_unique.Goals as goal

pub returns : goal.returns
returns c = in_time-unique
