use Rattle.std.proofs.Common.{◌≡◌, ◌++◌}
use Rattle.partition_model.specs.Assignments.{Assignment}
use Rattle.partition_model.specs.Listings.{edges_from}
use Rattle.replay_check.specs.Shown.{HasCounts}
use Rattle.replay_check.proofs.graph.push_edges_from.Given as goal

abbrev pub invariant-loop-q : goal.invariant-loop-q
invariant-loop-q l = (h : Assignment) → HasCounts h l.counts.counts.items → l.list.items ≡ l.initial.list.items ++ edges_from l.q h l.p
