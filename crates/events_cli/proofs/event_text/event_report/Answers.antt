use Rattle.std.proofs.Common.{◌∙◌, ap, flat_map}
use Rattle.std.proofs.lemmas.List.{take_all}
use Rattle.command_line.specs.Task.{task_held}
use Rattle.events_cli.specs.Texts.{event_line}
use Rattle.events_cli.proofs.Texts.{lines-more, zero-event}
use Rattle.events_cli.proofs.event_text.event_report.Goals as goal

pub returns : goal.returns
returns c =
    let task = task_held c.args.task.now in
    c.from_vec.ensures
    ∙ (c.loop-event.invariant
    ∙ (ap (flat_map (event_line task c.args.traces.now c.have_times.result)) (take_all c.loop-event.event-index c.args.events.now c.loop-event-test.false)
    ∙ ap (λ timed. flat_map (event_line task c.args.traces.now timed) c.args.events.now) c.have_times.ensures))

pub loop-event-preserved : goal.loop-event-preserved
loop-event-preserved c =
    lines-more (event_line (task_held c.args.task.now) c.args.traces.now c.have_times.result) c.args.events.now zero-event c.loop-event.event-index c.loop-event.all.items c.push_event.new.all.items c.loop-event-test.true
    c.loop-event.invariant c.in_ok-push_event.ensures
