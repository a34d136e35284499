use Rattle.std.proofs.Common.{◌≡◌}
use Rattle.std.specs.List.{flat_map}
use Rattle.partition_model.specs.Assignments.{Assignment}
use Rattle.partition_model.specs.Listings.{edges_from, ids_below}
use Rattle.replay_check.specs.Shown.{HasCounts}
use Rattle.replay_check.proofs.graph.edges_of.Given as goal

abbrev pub invariant-loop-p : goal.invariant-loop-p
invariant-loop-p l = (h : Assignment) → HasCounts h l.counts.counts.items → l.list.items ≡ flat_map (edges_from l.n h) (ids_below l.p)
