use Rattle.std.proofs.Common.{arith, sym, ◌∙◌}
use Rattle.splitter.proofs.Following.{following-start, following-more, following-left, following-whole, following-end, event-there, read, is-same, is-not-same, not-true, not-false, first-le}
use Rattle.splitter.proofs.stitcher.followed_in.Goals as goal

pub loop-event-init : goal.loop-event-init
loop-event-init c =
    following-start c.args.graph.now.traces c.args.path.now c.args.t c.first_event-event.result c.first_event-event.ensures c.requires.starts

pub part_of-requires : goal.part_of-requires
part_of-requires c =
    event-there c.args.graph.now.traces c.args.t c.loop-event.event c.end_of-event-end.result c.requires.there c.loop-event-test.true c.end_of-event-end.ensures

pub returns-then-ne : goal.returns-then-ne
returns-then-ne c =
    following-left c.args.graph.now.traces c.args.path.now c.args.t c.loop-event.place c.loop-event.event c.end_of-event-end.result c.part_of.result c.loop-event.invariant c.requires.there c.loop-event-test.true c.end_of-event-end.ensures c.part_of.ensures.there
    (λ e. is-not-same c.copied.result c.part_of.result (not-false _ (sym c.if-ne.ensures)) (c.copied.ensures ∙ read c.get.result c.args.path.now c.loop-event.place c.get.ensures.lookup.3 ∙ e))

pub loop-event-preserved : goal.loop-event-preserved
loop-event-preserved c =
    following-more c.args.graph.now.traces c.args.path.now c.args.t c.loop-event.place c.loop-event.event c.end_of-event-end.result c.part_of.result c.loop-event.invariant c.requires.there c.loop-event-test.true c.end_of-event-end.ensures c.part_of.ensures.there
    (sym (c.copied.ensures ∙ read c.get.result c.args.path.now c.loop-event.place c.get.ensures.lookup.3) ∙ is-same c.copied.result c.part_of.result (not-true _ (sym c.if-ne.ensures)))

pub returns-then-eq : goal.returns-then-eq
returns-then-eq c =
    following-whole c.args.graph.now.traces c.args.path.now c.args.t c.loop-event.place c.loop-event.event c.loop-event.invariant c.requires.there (omega (arith, first-le c.args.graph.now.traces c.args.t c.requires.there))
    (sym (c.copied-2.ensures ∙ read c.get-2.result c.args.path.now c.loop-event.place c.get-2.ensures.lookup.3) ∙ is-same c.copied-2.result 1 c.if-eq.ensures)

pub returns : goal.returns
returns c =
    following-end c.args.graph.now.traces c.args.path.now c.args.t c.loop-event.place c.loop-event.event c.loop-event.invariant c.requires.there (omega (arith, first-le c.args.graph.now.traces c.args.t c.requires.there))
    (λ e. is-not-same c.copied-2.result 1 c.if-eq.ensures (c.copied-2.ensures ∙ read c.get-2.result c.args.path.now c.loop-event.place c.get-2.ensures.lookup.3 ∙ e))
