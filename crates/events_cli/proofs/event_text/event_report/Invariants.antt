use Rattle.std.proofs.Common.{◌≡◌, flat_map, take}
use Rattle.command_line.specs.Task.{task_held}
use Rattle.events_cli.specs.Texts.{event_line}
use Rattle.events_cli.proofs.event_text.event_report.Given as goal

abbrev pub invariant-loop-event : goal.invariant-loop-event
invariant-loop-event l = l.all.items ≡ flat_map (event_line (task_held l.log.task.now) l.log.traces.now l.log.timed) (take l.event-index l.events)
