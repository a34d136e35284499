use Rattle.limits.specs.declared.TheConstants.{MAX_PARTITIONS}
use Rattle.labelling.proofs.Passing.{blank}
use Rattle.labelling.proofs.propagation.no_marks.Goals as goal

pub returns-clause-none : goal.returns-clause-none
returns-clause-none c = blank MAX_PARTITIONS
