use Rattle.std.proofs.Common.{◌-◌}
use Rattle.limits.specs.declared.TheConstants.{MAX_PARTITIONS}
use Rattle.partition_graph.specs.Seen.{seen}
use Rattle.path_finder.specs.Reaching.{edge_by, IsReaching, MeetsMore}
use Rattle.path_finder.proofs.reach.Reach.follow_all.Given as goal

abbrev pub invariant-loop-next : goal.invariant-loop-next
invariant-loop-next l =
    record {
      reaching : IsReaching (edge_by l.way (seen l.sight.view)) l.next l.self;
      more : MeetsMore l.initial.self l.self;
    }

abbrev pub decreases-loop-next : goal.decreases-loop-next
decreases-loop-next l = MAX_PARTITIONS - l.next
