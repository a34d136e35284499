use Rattle.load_maker.proofs.InOrder.{in-order}
use Rattle.load_maker.proofs.law.sessions_stand_in_order.Goals as goal

pub returns : goal.returns
returns c = in-order
