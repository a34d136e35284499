use Rattle.std.proofs.Common.{◌≡◌, flat_map, take}
use Rattle.events_cli.specs.Texts.{plain_line}
use Rattle.events_cli.proofs.plain.plain_log.Given as goal

abbrev pub invariant-loop-event : goal.invariant-loop-event
invariant-loop-event l = l.all.items ≡ flat_map (plain_line l.traces.types) (take l.event-index l.events)
