use Rattle.events_cli.proofs.Twice.{runs-are-alike}
use Rattle.events_cli.proofs.law.runs_are_alike.Goals as goal

pub returns : goal.returns
returns c = runs-are-alike
