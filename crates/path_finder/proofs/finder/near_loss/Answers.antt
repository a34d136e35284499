use Rattle.std.proofs.Common.{◌<◌, arith}
use Rattle.partition_model.specs.Assignments.{G}
use Rattle.path_finder.specs.IdSets.{has_id}
use Rattle.path_finder.proofs.Narrow.{loss_keeps, live_below}
use Rattle.path_finder.proofs.finder.near_loss.Goals as goal

pub near_merge-requires-clause-p : goal.near_merge-requires-clause-p
near_merge-requires-clause-p c =
    let l : c.args.merge.p < c.ids_used.result = live_below (c.args.graph.now.traces) c.ids_used.result c.args.merge.p c.requires.pair.low c.ids_used.ensures.below c.requires.pair.has_p in
    omega (arith, l, c.ids_used.ensures.limit)

pub near_merge-requires-clause-q : goal.near_merge-requires-clause-q
near_merge-requires-clause-q c =
    let l : c.args.merge.q < c.ids_used.result = live_below (c.args.graph.now.traces) c.ids_used.result c.args.merge.q (omega (arith, c.requires.pair.low, c.requires.pair.order)) c.ids_used.ensures.below c.requires.pair.has_q in
    omega (arith, l, c.ids_used.ensures.limit)

pub returns-clause-keeps : goal.returns-clause-keeps
returns-clause-keeps c =
    loss_keeps (has_id c.near_merge.result) (G c.args.graph.now.traces) c.args.merge.p c.args.merge.q c.args.inv c.near_merge.ensures.around (c.requires.known c.if-not-satisfied.false)
