use Rattle.limits.specs.declared.TheConstants.{MAX_PARTITIONS}
use Rattle.clashes.proofs.Bits.{none_set}
use Rattle.clashes.proofs.growing.nowhere.Goals as goal

pub returns-clause-still : goal.returns-clause-still
returns-clause-still c = none_set MAX_PARTITIONS
