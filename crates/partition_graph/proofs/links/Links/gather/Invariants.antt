use Rattle.std.proofs.Common.{◌≤◌, vec_capacity}
use Rattle.partition_graph.specs.declared.links.TheConstants.{MAX_LINKS}
use Rattle.partition_graph.specs.Links.{AreLinksBefore}
use Rattle.partition_graph.specs.Seen.{seen}
use Rattle.partition_graph.proofs.links.Links.gather.Given as goal

abbrev pub invariant-loop-from : goal.invariant-loop-from
invariant-loop-from l =
    record {
      before : AreLinksBefore l.self-inside.links.items (seen l.view) l.from 0;
      room : MAX_LINKS ≤ vec_capacity l.self-inside.links;
    }
