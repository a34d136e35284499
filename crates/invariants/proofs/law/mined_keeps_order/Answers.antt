use Rattle.invariants.proofs.Order.{mined_keeps_order}
use Rattle.invariants.proofs.law.mined_keeps_order.Goals as goal

pub returns : goal.returns
returns c = mined_keeps_order
