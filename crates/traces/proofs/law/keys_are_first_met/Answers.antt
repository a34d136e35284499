use Rattle.traces.proofs.FirstMet.{keys-first_met}
use Rattle.traces.proofs.law.keys_are_first_met.Goals as goal

pub returns : goal.returns
returns c = keys-first_met
