use Rattle.synoptic_cli.proofs.Rechecked.{inferred-accepted, models-accepted}
use Rattle.synoptic_cli.proofs.law.models_are_accepted.Goals as goal

pub returns-clause-models : goal.returns-clause-models
returns-clause-models c = models-accepted

pub returns-clause-inferred : goal.returns-clause-inferred
returns-clause-inferred c = inferred-accepted
