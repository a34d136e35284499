use Rattle.std.proofs.Common.{rules}
use Rattle.trace_builder.proofs.builder.room_for.Goals as goal

pub returns-then-event_count-ge-MAX_EVENTS-clause-type_limit : goal.returns-then-event_count-ge-MAX_EVENTS-clause-type_limit
returns-then-event_count-ge-MAX_EVENTS-clause-type_limit c = search rules

pub returns-then-event_count-ge-MAX_EVENTS-clause-event_limit : goal.returns-then-event_count-ge-MAX_EVENTS-clause-event_limit
returns-then-event_count-ge-MAX_EVENTS-clause-event_limit c = search rules

pub returns-clause-room : goal.returns-clause-room
returns-clause-room c = search rules

pub returns-clause-type_limit : goal.returns-clause-type_limit
returns-clause-type_limit c = search rules
