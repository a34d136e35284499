use Rattle.refinement_end.proofs.satisfied_or_violated.Goals as goal
use Rattle.refinement_end.proofs.Violations.{satisfied_or_violated}

pub returns : goal.returns
returns c = satisfied_or_violated
