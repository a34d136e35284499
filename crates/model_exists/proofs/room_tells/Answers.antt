use Rattle.model_exists.proofs.room_tells.Goals as goal
use Rattle.model_exists.proofs.Room.{room_tells}

pub returns : goal.returns
returns c = room_tells
