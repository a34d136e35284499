use Rattle.std.specs.Ordering.{nat_cmp}
use Rattle.std.specs.BTreeMap.{get_by}
use Rattle.reports.proofs.Found.{found-more}
use Rattle.reports.proofs.partitions.by_id.Goals as goal

pub loop-partition-preserved : goal.loop-partition-preserved
loop-partition-preserved c =
    λ id. found-more c.args.partitions.now c.loop-partition.partition-index _ id (get_by (nat_cmp id) c.loop-partition.places) (get_by (nat_cmp id) c.note.new.places) c.loop-partition-test.true
    (c.loop-partition.invariant id) (c.in_ok-note.ensures id)
