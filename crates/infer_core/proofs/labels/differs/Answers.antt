use Rattle.infer_core.proofs.Windows.{bits-same}
use Rattle.infer_core.proofs.labels.differs.Goals as goal

pub returns : goal.returns
returns c k off = bits-same c.args.word c.args.distance k off
