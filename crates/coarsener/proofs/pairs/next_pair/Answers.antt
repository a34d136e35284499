use Rattle.std.proofs.Common.{arith}
use Rattle.partition_model.specs.Assignments.{G}
use Rattle.partition_bounds.proofs.Merges.{graphs_are_below}
use Rattle.coarsener.proofs.Behind.{rows-start, rows-next, rows-found, rows-end}
use Rattle.coarsener.proofs.pairs.next_pair.Goals as goal

pub loop-p-init : goal.loop-p-init
loop-p-init c = rows-start (G c.args.graph.now.traces) c.args.at.p c.args.at.q c.in_default.ensures.next

pub returns-in-Some-next_partner-clause-next : goal.returns-in-Some-next_partner-clause-next
returns-in-Some-next_partner-clause-next c =
    rows-found (G c.args.graph.now.traces) c.args.at.p c.args.at.q c.loop-p.p c.in-Some-next_partner.q
    (omega (arith, c.loop-p.auto.p)) c.loop-p.invariant c.in-Some-next_partner.ensures.next

pub loop-p-preserved : goal.loop-p-preserved
loop-p-preserved c =
    rows-next (G c.args.graph.now.traces) c.args.at.p c.args.at.q c.loop-p.p c.loop-p.invariant c.in_default-next_partner.ensures.next

pub returns-clause-next : goal.returns-clause-next
returns-clause-next c =
    rows-end (G c.args.graph.now.traces) c.args.at.p c.args.at.q c.loop-p.p c.ids_used-used.result c.loop-p.invariant
    (graphs_are_below c.args.graph.now.traces c.ids_used-used.result c.ids_used-used.ensures.two c.ids_used-used.ensures.below) c.loop-p-test.false
