use Rattle.infer_core.proofs.Excluding.{ends_exclude}
use Rattle.infer_core.proofs.law.ends_exclude.Goals as goal

pub returns : goal.returns
returns c = ends_exclude
