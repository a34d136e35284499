use Rattle.synoptic_cli.proofs.Outcome.{outcomes-known}
use Rattle.synoptic_cli.proofs.law.outcomes_are_known.Goals as goal

pub returns : goal.returns
returns c = outcomes-known
