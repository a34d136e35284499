-- The events of a log, and the line of each.
use Rattle.std.specs.Prelude.{ℕ, ◌==◌, List, [], ◌∷◌, map, filter}
use Rattle.std.specs.List.{flat_map, position_or_len}
use Rattle.trace_keys.specs.Keys.{same_key}
use Rattle.traces.specs.Words.{Event as KeyedEvent, keys_of, number_of, ordered_by, types_of}
use Rattle.log_reader.specs.LogLines.{Line, events_at, own_events}
use Rattle.log_reader.specs.Reading.{Setting}
use Rattle.log_reader.specs.declared.refusal.At.{At}
use Rattle.log_reader.specs.declared.taken.Taken.{Taken}
use Rattle.log_reader.specs.declared.taken.Taken.TheVariants.{Event, Undecided, Nothing}
use Rattle.events.specs.declared.located.Located.{Located}

-- the events of lines, each with the place of its line, in the order of the lines
abbrev pub events_with_lines : Setting → List Line → List (At × KeyedEvent)
events_with_lines s lines = flat_map (λ l. map (λ event. (l.at, event)) (own_events s l)) lines

-- an event with the place of its line, the place of its trace and the number of its type in the log of these events
abbrev pub located_in : List KeyedEvent → At × KeyedEvent → Located
located_in events event = record {
  at = event.0;
  trace = position_or_len (same_key event.1.key) (keys_of events);
  number = number_of (types_of events) event.1.typ;
  time = event.1.time;
}

-- the events of lines with their places, in the order of the lines
abbrev pub events_located : Setting → List Line → List Located
events_located s lines = map (located_in (events_at s lines)) (events_with_lines s lines)

-- the events sorted by their traces, and in a trace by their times; events with equal times keep their order
abbrev pub by_traces : List Located → List Located
by_traces events = ordered_by (λ event. event.trace) (ordered_by (λ event. event.time) events)

-- the types of the events of the trace with this place
abbrev pub numbers_of_trace : ℕ → List Located → List ℕ
numbers_of_trace k events = map (λ event. event.number) (filter (λ event. event.trace == k) events)

-- the times of the events of the trace with this place
abbrev pub times_of_trace : ℕ → List Located → List ℕ
times_of_trace k events = map (λ event. event.time) (filter (λ event. event.trace == k) events)

-- the event of the line at this place, if it was taken as one
abbrev pub located_of : At → Taken → List Located
located_of at (Event placed time) = record { at = at; trace = placed.trace; number = placed.number; time = time } ∷ []
located_of at Undecided = []
located_of at Nothing = []
