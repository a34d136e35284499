use Rattle.std.proofs.Common.{◌<◌, ◌+◌, List, arith, sym, subst}
use Rattle.limits.specs.declared.TheConstants.{MAX_PARTITIONS}
use Rattle.partition_graph.specs.declared.links.Link.{Link}
use Rattle.partition_graph.specs.Links.{AreLinksBefore}
use Rattle.partition_graph.specs.Seen.{seen}
use Rattle.partition_graph.proofs.Linked.{one_more, row_linked}
use Rattle.partition_graph.proofs.links.push_links.Goals as goal

pub loop-to-preserved : goal.loop-to-preserved
loop-to-preserved c =
    let g = seen c.args.view.now in
    let below : c.in-Some.to < MAX_PARTITIONS = c.in-Some.ensures.within.1 in
    record {
      reached = omega (arith, below);
      before =
          subst (λ (links : List Link). AreLinksBefore links g c.args.from (c.in-Some.to + 1)) (sym c.push_reserved.ensures.items)
          (one_more g c.loop-to.links.items c.args.from c.loop-to.reached c.in-Some.to c.requires.id below c.loop-to.invariant.before c.in-Some.ensures.next);
      room = omega (arith, c.loop-to.invariant.room, c.push_reserved.ensures.capacity);
    }

pub returns-clause-before : goal.returns-clause-before
returns-clause-before c =
    row_linked (seen c.args.view.now) c.loop-to.links.items c.args.from c.loop-to.reached c.loop-to.invariant.reached c.loop-to.invariant.before c.in_default.ensures.next
