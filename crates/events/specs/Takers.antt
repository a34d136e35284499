-- Readers that take in the lines of a log, and keep more than its traces.
use Rattle.std.specs.Prelude.{◌≡◌}
use Rattle.log_reader.specs.LogLines.{events_at}
use Rattle.log_reader.specs.SoFar.{IsGatheredOf, IsReady, setting_of}
use Rattle.log_reader.specs.Taking.{Taker}
use Rattle.events.specs.Located.{events_located}
use Rattle.events.specs.Undecided.{shown_lines, undecided_lines}
use Rattle.events.specs.declared.event_reader.EventReader.{EventReader}
use Rattle.events.specs.declared.undecided_reader.UndecidedReader.{UndecidedReader}

-- a reader that gathers the traces of a log, and keeps the line of each event
abbrev pub locating : EventReader → Taker
locating new = record {
  ready = IsReady new.reader;
  setting = setting_of new.reader;
  section = new.reader.log.section;
  has = λ lines.
      IsGatheredOf new.reader.log.builder (events_at (setting_of new.reader) lines)
      × (new.located.items ≡ events_located (setting_of new.reader) lines);
}

-- a reader that gathers the traces of a log, and keeps the undecided lines
abbrev pub collecting : UndecidedReader → Taker
collecting new = record {
  ready = IsReady new.reader;
  setting = setting_of new.reader;
  section = new.reader.log.section;
  has = λ lines.
      IsGatheredOf new.reader.log.builder (events_at (setting_of new.reader) lines)
      × (shown_lines new.lines.items ≡ undecided_lines (setting_of new.reader) lines);
}
