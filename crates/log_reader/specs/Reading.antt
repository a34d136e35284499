-- Logs over several files: the events of their lines, and the first refusal.
use Rattle.std.specs.Prelude.{ℕ, ◌+◌, ◌-◌, ◌==◌, ◌&&◌, Bool, not, List, [], ◌∷◌, ◌++◌, length, take}
use Rattle.std.specs.Prelude.{nat_lt, nat_le, Option, Some, None, Result, Ok, Err, if◌then◌else◌}
use Rattle.std.specs.List.{list_any}
use Rattle.std.specs.Str.{bytes_eq}
use Rattle.limits.specs.declared.TheConstants.{MAX_EVENTS, MAX_INPUT_BYTES, MAX_LINE_BYTES, MAX_TRACE_BYTES, MAX_TYPE_BYTES, MAX_TYPES}
use Rattle.lines.specs.Lines.{pieces, line_of, text_of, plain_fields_of}
use Rattle.traces.specs.Words.{Event as KeyedEvent, event_of, types_of}
use Rattle.line_rules.specs.Rules.{Rule, decision_of, type_text, part}
use Rattle.line_rules.specs.declared.decision.DecideError.{DecideError}
use Rattle.line_rules.specs.declared.decision.Decision.{Decision}
use Rattle.line_rules.specs.declared.decision.Decision.TheVariants as decision
use Rattle.log_reader.specs.declared.refusal.At.{At}
use Rattle.log_reader.specs.declared.refusal.ReadError.{ReadError}
use Rattle.log_reader.specs.declared.refusal.ReadError.TheVariants as refused

-- what decides the lines of a log
pub data Form : Type 0 where
  Plain : Form
  Rules : (rules : List Rule) → Form

-- how a log is read: what decides its lines, whether undecided lines are skipped, and whether its
-- files are joined
pub record Setting : Type 0 where
  pub form : Form
  pub ignore : Bool
  pub join : Bool

-- a setting of its parts
abbrev pub setting : Form → Bool → Bool → Setting
setting form ignore join = record { form = form; ignore = ignore; join = join }

-- what a line is, by its text
pub data Decided : Type 0 where
  Event : (typ trace : List ℕ) (time : ℕ) → Decided
  Skip : Decided
  Separator : Decided
  Undecided : Decided
  BadTime : Decided

-- what a line is in the plain form, by its fields
abbrev pub by_fields : Option (List ℕ × List ℕ) → Decided
by_fields None = Undecided
by_fields (Some fields) = Event fields.1 fields.0 0

-- what a line is by rules, from their decision
abbrev pub by_rules : List Rule → List ℕ → Result Decision DecideError → Decided
by_rules rules text (Ok (decision.Event name from to time)) =
    Event (type_text rules text name) (part text from to) time
by_rules rules text (Ok decision.Skip) = Skip
by_rules rules text (Ok decision.Separator) = Separator
by_rules rules text (Ok decision.Undecided) = Undecided
by_rules rules text (Err e) = BadTime

-- what a line with this text is
abbrev pub decided : Form → List ℕ → Decided
decided Plain text = by_fields (plain_fields_of text)
decided (Rules rules) text = by_rules rules text (decision_of rules text)

-- what the line of a piece is; one without bytes is skipped
abbrev pub decided_piece : Form → List ℕ → Decided
decided_piece form piece = if length (line_of piece) == 0 then Skip else decided form (text_of piece)

-- the event of a line of this file and section, if it is one
abbrev pub line_events : ℕ → ℕ → Decided → List KeyedEvent
line_events file section (Event typ trace time) = event_of file section trace typ time ∷ []
line_events file section _ = []

-- how many separators are before the next line
abbrev pub section_after : ℕ → Decided → ℕ
section_after section Separator = section + 1
section_after section _ = section

-- the events of the pieces of a file; the first piece is in this section
abbrev pub piece_events : Form → ℕ → ℕ → List (List ℕ) → List KeyedEvent
piece_events form file section [] = []
piece_events form file section (piece ∷ rest) =
    line_events file section (decided_piece form piece)
    ++ piece_events form file (section_after section (decided_piece form piece)) rest

-- the section after the pieces
abbrev pub section_at_end : Form → ℕ → List (List ℕ) → ℕ
section_at_end form section [] = section
section_at_end form section (piece ∷ rest) =
    section_at_end form (section_after section (decided_piece form piece)) rest

-- the number of a file in keys: files that are joined are one
abbrev pub key_file : Setting → ℕ → ℕ
key_file s number = if s.join then 0 else number

-- the section in which the next file begins: this one if files are joined, otherwise 0
abbrev pub next_section : Setting → ℕ → ℕ
next_section s section = if s.join then section else 0

-- the events of files; the first has this number and begins in this section
abbrev pub file_events : Setting → ℕ → ℕ → List (List ℕ) → List KeyedEvent
file_events s number section [] = []
file_events s number section (bytes ∷ files) =
    piece_events s.form (key_file s number) section (pieces bytes)
    ++ file_events s (number + 1) (next_section s (section_at_end s.form section (pieces bytes))) files

-- the events of a log
abbrev pub events_of : Setting → List (List ℕ) → List KeyedEvent
events_of s files = file_events s 0 0 files

-- the first of two refusals
abbrev pub first_of : Option ReadError → Option ReadError → Option ReadError
first_of None next = next
first_of (Some e) next = Some e

-- the refusal of an event with these texts, after these types and this many events
abbrev pub event_refusal : At → List (List ℕ) → ℕ → List ℕ → List ℕ → Option ReadError
event_refusal at types count typ trace =
    if nat_lt MAX_TYPE_BYTES (length typ) then Some (refused.TypeTooLong at)
    else if nat_lt MAX_TRACE_BYTES (length trace) then Some (refused.TraceTooLong at)
    else if not (list_any (bytes_eq typ) types) && nat_le MAX_TYPES (length types)
    then Some (refused.TypeLimit at)
    else if nat_le MAX_EVENTS count then Some (refused.EventLimit at)
    else None

-- the refusal of a line, after these events
abbrev pub line_refusal : Bool → At → List KeyedEvent → Decided → Option ReadError
line_refusal ignore at before (Event typ trace time) =
    event_refusal at (types_of before) (length before) typ trace
line_refusal ignore at before Skip = None
line_refusal ignore at before Separator = None
line_refusal ignore at before Undecided = if ignore then None else Some (refused.Undecided at)
line_refusal ignore at before BadTime = Some (refused.BadTime at)

-- the refusal of a piece that is too long comes before all others of its line
abbrev pub piece_refusal : Setting → At → List KeyedEvent → List ℕ → Option ReadError
piece_refusal s at before piece =
    if nat_lt MAX_LINE_BYTES (length piece) then Some (refused.LineTooLong at)
    else line_refusal s.ignore at before (decided_piece s.form piece)

-- the refusal of the piece with the byte past the limit on all input
abbrev pub limit_refusal : At → List ℕ → ReadError
limit_refusal at piece =
    if nat_lt MAX_LINE_BYTES (length piece) then refused.LineTooLong at else refused.InputLimit

-- a line of a file, by their numbers
abbrev pub at_line : ℕ → ℕ → At
at_line file line = record { file = file; line = line }

-- The first refusal of the pieces of the file with this number, after these events. The first piece
-- has this line number and section. If the limit on all input cuts the file, the last
-- piece is the one with the byte past the limit.
abbrev pub pieces_refusal : Setting → ℕ → Bool → ℕ → List KeyedEvent → ℕ → List (List ℕ) → Option ReadError
pieces_refusal s number cut section before line [] = None
pieces_refusal s number cut section before line (piece ∷ rest) =
    if cut && length rest == 0 then Some (limit_refusal (at_line number line) piece)
    else first_of (piece_refusal s (at_line number line) before piece)
    (pieces_refusal s number cut (section_after section (decided_piece s.form piece))
    (before ++ line_events (key_file s number) section (decided_piece s.form piece)) (line + 1) rest)

-- the first refusal of a file, if there is room for this many more bytes
abbrev pub bytes_refusal : Setting → ℕ → ℕ → List KeyedEvent → ℕ → List ℕ → Option ReadError
bytes_refusal s number section before room bytes =
    pieces_refusal s number (nat_lt room (length bytes)) section before 1 (pieces (take (room + 1) bytes))

-- the first refusal of files
abbrev pub files_refusal : Setting → ℕ → ℕ → List KeyedEvent → ℕ → List (List ℕ) → Option ReadError
files_refusal s number section before room [] = None
files_refusal s number section before room (bytes ∷ files) =
    first_of (bytes_refusal s number section before room bytes)
    (files_refusal s (number + 1) (next_section s (section_at_end s.form section (pieces bytes)))
    (before ++ piece_events s.form (key_file s number) section (pieces bytes)) (room - length bytes) files)

-- the first refusal of a log, in the order of its bytes
abbrev pub first_refusal : Setting → List (List ℕ) → Option ReadError
first_refusal s files = files_refusal s 0 0 [] MAX_INPUT_BYTES files
