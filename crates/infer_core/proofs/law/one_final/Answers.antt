use Rattle.infer_core.proofs.Excluding.{one_final}
use Rattle.infer_core.proofs.law.one_final.Goals as goal

pub returns : goal.returns
returns c = one_final
