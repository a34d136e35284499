-- Laws on the events and the undecided lines of a log, and a small log.
use Rattle.std.specs.Prelude.{ℕ, ◌≡◌, ◌≢◌, Bool, true, false, List, [], ◌∷◌, ◌++◌, codes, filter, map}
use Rattle.lines.specs.Lines.{line_of}
use Rattle.log_reader.specs.LogLines.{Line, lines_of}
use Rattle.log_reader.specs.Reading as spec
use Rattle.log_reader.specs.Reading.{Decided, Setting, at_line, decided_piece, setting}
use Rattle.events.specs.Located.{events_located}
use Rattle.events.specs.Undecided.{undecided_lines}
use Rattle.events.specs.declared.located.Located.{Located}

-- the line is an event
abbrev pub is_event : Decided → Bool
is_event (spec.Event typ trace time) = true
is_event _ = false

-- the places of the events are those of the lines that are events, in their order
abbrev pub EventsStandOnTheirLines : Type 0
EventsStandOnTheirLines =
    (s : Setting) (lines : List Line)
    → map (λ event. event.at) (events_located s lines)
    ≡ map (λ l. l.at) (filter (λ l. is_event (decided_piece s.form l.piece)) lines)

-- a line that nothing decides is listed: with its place and its bytes, between the undecided lines before it and those after it
abbrev pub UndecidedAreListed : Type 0
UndecidedAreListed =
    (s : Setting) (before rest : List Line) (l : Line) → decided_piece s.form l.piece ≡ spec.Undecided
    → undecided_lines s (before ++ l ∷ rest)
    ≡ undecided_lines s before ++ (l.at, line_of l.piece) ∷ undecided_lines s rest

-- any other line is not listed: an event, a skipped line, a separator, or a line with a bad time
abbrev pub OthersAreNotListed : Type 0
OthersAreNotListed =
    (s : Setting) (before rest : List Line) (l : Line) → decided_piece s.form l.piece ≢ spec.Undecided
    → undecided_lines s (before ++ l ∷ rest) ≡ undecided_lines s (before ++ rest)

-- undecided lines are skipped, and files are not joined
abbrev pub plainly : Setting
plainly = setting spec.Plain true false

-- a log of six lines: an event of trace 7, one of trace 8, an empty line, a line that nothing decides, and two further
-- events of trace 7
abbrev pub small_log : List (List ℕ)
small_log = codes "7 open\n8 open\n\nread\n7 read\n7 close\n" ∷ []

-- an event without a time in the first file: its line, the place of its trace and the number of its type
abbrev pub event_on : ℕ → ℕ → ℕ → Located
event_on line trace number = record { at = at_line 0 line; trace = trace; number = number; time = 0 }

-- what is read of it
pub record SmallLogTells : Type 0 where
  -- traces are numbered from 0 and types from 2, each in the order first met; lines are counted from 1
  pub events : events_located plainly (lines_of plainly small_log)
      ≡ event_on 1 0 2 ∷ event_on 2 1 2 ∷ event_on 5 0 3 ∷ event_on 6 0 4 ∷ []
  -- neither an event nor the empty line is undecided
  pub undecided : undecided_lines plainly (lines_of plainly small_log) ≡ (at_line 0 4, codes "read") ∷ []
