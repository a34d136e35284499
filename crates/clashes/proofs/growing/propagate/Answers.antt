use Rattle.std.proofs.Common.{◌∙◌}
use Rattle.partition_model.specs.Graphs.{Graph}
use Rattle.partition_model.specs.Assignments.{G}
use Rattle.clashes.proofs.Sound.{grown_none, grown_then}
use Rattle.clashes.proofs.growing.propagate.Goals as goal

pub passes-init : goal.passes-init
passes-init c =
    record {
      grown = grown_none c.args.mark_rows.now (G c.args.graph.now.traces);
      recent_room = c.requires.room;
      now_room = c.nowhere-now.ensures.room;
      still = c.nowhere-now.ensures.still;
      closed = λ before. before;
    }

pub passes-preserved : goal.passes-preserved
passes-preserved c =
    let g : Graph = G c.args.graph.now.traces in
    record {
      grown = grown_then c.args.mark_rows.now c.passes.mark_rows c.pass.new.mark_rows g c.passes.invariant.grown c.pass.ensures.grown;
      recent_room = c.pass.auto.now ∙ c.passes.invariant.now_room;
      now_room = c.nowhere-now-in-passes.ensures.room;
      still = c.nowhere-now-in-passes.ensures.still;
      closed = λ before. c.pass.ensures.after (c.passes.invariant.closed before);
    }

pub returns-clause-grown : goal.returns-clause-grown
returns-clause-grown c = grown_then c.args.mark_rows.now c.passes.mark_rows c.pass.new.mark_rows (G c.args.graph.now.traces) c.passes.invariant.grown c.pass.ensures.grown

pub returns-clause-closed : goal.returns-clause-closed
returns-clause-closed c before u v edge =
    c.pass.ensures.after (c.passes.invariant.closed before) u v edge (c.pass.ensures.still c.passes-test.false u) (c.pass.ensures.still c.passes-test.false v)
