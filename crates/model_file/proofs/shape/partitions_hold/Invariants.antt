use Rattle.std.proofs.Common.{◌≡◌, drop}
use Rattle.std.specs.List.{list_all}
use Rattle.model_file.specs.Rules.{partition_holds}
use Rattle.model_file.proofs.shape.partitions_hold.Given as goal

abbrev pub invariant-others : goal.invariant-others
invariant-others l = list_all (partition_holds l.types) (drop l.partition-index l.partition-items) ≡ list_all (partition_holds l.types) l.partition-items
