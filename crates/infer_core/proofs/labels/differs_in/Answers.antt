use Rattle.infer_core.proofs.Windows.{off-all}
use Rattle.infer_core.proofs.labels.differs_in.Goals as goal

pub returns : goal.returns
returns c k off =
    let three = off-all c.differs.result c.differs-2.result c.differs-3.result k off in
    record {
      zeroth = c.differs.ensures k three.0;
      first = c.differs-2.ensures k three.1;
      second = c.differs-3.ensures k three.2;
    }
