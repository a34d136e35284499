use Rattle.std.proofs.Common.{◌≡◌, ℕ, take}
use Rattle.std.specs.Ordering.{nat_cmp}
use Rattle.std.specs.BTreeMap.{get_by}
use Rattle.reports.specs.Reports.{partition_with}
use Rattle.reports.proofs.partitions.by_id.Given as goal

abbrev pub invariant-loop-partition : goal.invariant-loop-partition
invariant-loop-partition l = (id : ℕ) → get_by (nat_cmp id) l.places ≡ partition_with (take l.partition-index l.partitions) id
