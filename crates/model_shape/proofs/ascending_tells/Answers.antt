use Rattle.model_shape.proofs.Orders.{ascending_tells}
use Rattle.model_shape.proofs.ascending_tells.Goals as goal

pub returns : goal.returns
returns c = ascending_tells
