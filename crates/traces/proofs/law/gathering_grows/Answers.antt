use Rattle.traces.proofs.Grown.{gathered_of-push}
use Rattle.traces.proofs.law.gathering_grows.Goals as goal

pub returns : goal.returns
returns c = gathered_of-push
