use Rattle.synoptic_cli.proofs.Rechecked.{histories-accepted, inferred-replayed}
use Rattle.synoptic_cli.proofs.law.histories_are_accepted.Goals as goal

pub returns-clause-models : goal.returns-clause-models
returns-clause-models c = histories-accepted

pub returns-clause-inferred : goal.returns-clause-inferred
returns-clause-inferred c = inferred-replayed
