use Rattle.traces.proofs.FirstMet.{types-first_met}
use Rattle.traces.proofs.law.types_are_first_met.Goals as goal

pub returns : goal.returns
returns c = types-first_met
