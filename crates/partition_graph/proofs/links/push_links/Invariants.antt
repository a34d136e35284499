use Rattle.std.proofs.Common.{◌≤◌, ◌-◌, vec_capacity}
use Rattle.limits.specs.declared.TheConstants.{MAX_PARTITIONS}
use Rattle.partition_graph.specs.declared.links.TheConstants.{MAX_LINKS}
use Rattle.partition_graph.specs.Links.{AreLinksBefore}
use Rattle.partition_graph.specs.Seen.{seen}
use Rattle.partition_graph.proofs.links.push_links.Given as goal

abbrev pub invariant-loop-to : goal.invariant-loop-to
invariant-loop-to l =
    record {
      reached : l.reached ≤ MAX_PARTITIONS;
      before : AreLinksBefore l.links.items (seen l.view) l.from l.reached;
      room : MAX_LINKS ≤ vec_capacity l.links;
    }

abbrev pub decreases-loop-to : goal.decreases-loop-to
decreases-loop-to l = MAX_PARTITIONS - l.reached
