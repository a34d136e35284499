use Rattle.std.proofs.Common.{◌∙◌, ap, flat_map}
use Rattle.std.proofs.lemmas.List.{take_all}
use Rattle.events_cli.specs.Texts.{plain_line}
use Rattle.events_cli.proofs.Texts.{lines-more, zero-event}
use Rattle.events_cli.proofs.plain.plain_log.Goals as goal

pub returns : goal.returns
returns c =
    c.from_vec.ensures
    ∙ (c.loop-event.invariant ∙ ap (flat_map (plain_line c.args.traces.now.types)) (take_all c.loop-event.event-index c.args.events.now c.loop-event-test.false))

pub loop-event-preserved : goal.loop-event-preserved
loop-event-preserved c =
    lines-more (plain_line c.args.traces.now.types) c.args.events.now zero-event c.loop-event.event-index c.loop-event.all.items c.push_plain.new.all.items c.loop-event-test.true c.loop-event.invariant
    c.in_ok-push_plain.ensures
