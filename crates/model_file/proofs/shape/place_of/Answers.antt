use Rattle.model_file.proofs.Places.{place-agrees}
use Rattle.model_file.proofs.shape.place_of.Goals as goal

pub returns : goal.returns
returns c = place-agrees c.args.kinds c.args.types c.args.inv c.index_of.result c.index_of.ensures.index
