use Rattle.traces.proofs.TracesInTime.{in_order-gathered}
use Rattle.traces.proofs.law.gathering_in_order_is_the_log.Goals as goal

pub returns : goal.returns
returns c = in_order-gathered
