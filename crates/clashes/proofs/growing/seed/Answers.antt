use Rattle.std.proofs.Common.{arith}
use Rattle.partition_model.specs.Assignments.{G}
use Rattle.clashes.specs.Growing.{HasEntered}
use Rattle.clashes.proofs.Sound.{grown_none}
use Rattle.clashes.proofs.Passing.{seed_step, along_edges}
use Rattle.clashes.proofs.growing.seed.Goals as goal

pub loop-link-init : goal.loop-link-init
loop-link-init c = (grown_none c.args.mark_rows.now (G c.args.graph.now.traces), λ k d l. absurd (omega arith))

pub loop-link-preserved : goal.loop-link-preserved
loop-link-preserved c =
    seed_step (G c.args.graph.now.traces) c.args.links.now c.loop-link.link-index _ c.args.mark_rows.now c.loop-link.mark_rows c.enter.new.self c.type_of.result c.requires c.loop-link-test.true
    c.enter.ensures c.type_of.ensures c.loop-link.invariant

pub returns-clause-entered : goal.returns-clause-entered
returns-clause-entered c =
    along_edges c.args.links.now (G c.args.graph.now.traces) c.loop-link.link-index (λ u v. HasEntered c.loop-link.mark_rows (G c.args.graph.now.traces) u v) c.requires (omega (arith, c.loop-link-test.false)) c.loop-link.invariant.1
