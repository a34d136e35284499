use Rattle.std.proofs.Common.{arith, length, List, ◌≡◌, ◌∙◌}
use Rattle.partition_graph.specs.declared.links.Link.{Link}
use Rattle.partition_model.specs.Assignments.{G}
use Rattle.clashes.specs.Growing.{as_passed}
use Rattle.clashes.proofs.Passing.{edges_passed, pass_begins, pass_closes, pass_taken, passed_size}
use Rattle.clashes.proofs.growing.pass.Goals as goal

pub loop-done-init : goal.loop-done-init
loop-done-init c = (
  pass_begins (G c.args.graph.now.traces) c.args.mark_rows.now (as_passed c.args.from_end c.args.links.now) c.args.recent.now c.args.now.now
      (edges_passed c.args.from_end c.args.links.now (G c.args.graph.now.traces) c.requires.links) c.requires.none,
  c.requires.now_room,
)

pub loop-done-preserved : goal.loop-done-preserved
loop-done-preserved c =
    let links : List Link = as_passed c.args.from_end c.args.links.now in
    let size : length links ≡ length c.args.links.now = passed_size c.args.from_end c.args.links.now in (
      pass_taken (G c.args.graph.now.traces) links c.loop-done.done c.link_after-link.result c.args.mark_rows.now c.loop-done.mark_rows c.follow-more.new.mark_rows c.type_of.result c.loop-done.changed c.follow-more.result
          c.args.recent.now c.loop-done.now c.follow-more.new.now (edges_passed c.args.from_end c.args.links.now (G c.args.graph.now.traces) c.requires.links) (omega (arith, size, c.loop-done-test.true))
          (c.link_after-link.ensures.link c.link_after-link.result)
          c.follow-more.ensures.followed c.follow-more.ensures.tells c.type_of.ensures c.follow-more.ensures.noted c.follow-more.ensures.still c.loop-done.invariant.0,
      c.follow-more.auto.now ∙ c.loop-done.invariant.1,
    )

pub returns-clause-after : goal.returns-clause-after
returns-clause-after c before =
    let size : length (as_passed c.args.from_end c.args.links.now) ≡ length c.args.links.now = passed_size c.args.from_end c.args.links.now in
    pass_closes (G c.args.graph.now.traces) (as_passed c.args.from_end c.args.links.now) c.loop-done.done c.loop-done.mark_rows c.args.recent.now c.loop-done.now
    (edges_passed c.args.from_end c.args.links.now (G c.args.graph.now.traces) c.requires.links) (omega (arith, size, c.loop-done-test.false)) (c.loop-done.invariant.0.closed before)
