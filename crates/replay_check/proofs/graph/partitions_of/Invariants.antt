use Rattle.std.proofs.Common.{◌≡◌}
use Rattle.partition_model.specs.Assignments.{Assignment}
use Rattle.partition_model.specs.Listings.{partitions_below}
use Rattle.replay_check.specs.Shown.{Knows, HasSizes}
use Rattle.replay_check.proofs.graph.partitions_of.Given as goal

abbrev pub invariant-loop-p : goal.invariant-loop-p
invariant-loop-p l = (h : Assignment) → Knows h l.live l.types → HasSizes h l.sizes → l.list.items ≡ partitions_below l.p h
