-- The lines of a log, the place of each, and the refusal of each after those before it.
use Rattle.std.specs.Prelude.{ℕ, ◌≡◌, ◌≤◌, ◌<◌, ◌+◌, ◌-◌, ◌==◌, ◌&&◌, ⊤, Bool, true, false, IsTrue, if◌then◌else◌}
use Rattle.std.specs.Prelude.{List, [], ◌∷◌, ◌++◌, length, take, map, nat_lt, Option, Some, None}
use Rattle.std.specs.List.{count_by, enumerate_from, flat_map, sum_by}
use Rattle.limits.specs.declared.TheConstants.{MAX_INPUT_BYTES}
use Rattle.lines.specs.Lines.{pieces}
use Rattle.traces.specs.Words.{Event as KeyedEvent}
use Rattle.log_reader.specs.Reading.{Form, Setting, Decided, Event, Skip, Separator, Undecided, BadTime, decided_piece}
use Rattle.log_reader.specs.Reading.{at_line, first_refusal, key_file, limit_refusal, line_events, piece_refusal}
use Rattle.log_reader.specs.declared.refusal.At.{At}
use Rattle.log_reader.specs.declared.refusal.ReadError.{ReadError}

-- a line of a log: its place, how many separators are before it, and its bytes
pub record Line : Type 0 where
  pub at : At
  pub section : ℕ
  pub piece : List ℕ

-- a separator ends a section
abbrev pub is_separator : Decided → Bool
is_separator Separator = true
is_separator _ = false

-- how many of these lines are separators
abbrev pub separators : Form → List (List ℕ) → ℕ
separators form ps = count_by (λ p. is_separator (decided_piece form p)) ps

-- how many lines of these files are separators
abbrev pub separators_in : Form → List (List ℕ) → ℕ
separators_in form files = sum_by (λ bytes. separators form (pieces bytes)) files

-- how many separators are before a file: those of the files before it if files are joined, otherwise none
abbrev pub separators_before : Setting → List (List ℕ) → ℕ
separators_before s files = if s.join then separators_in s.form files else 0

-- the lines of the file with this number, which comes after these files; the first line has the number 1
abbrev pub file_lines : Setting → List (List ℕ) → ℕ → List (List ℕ) → List Line
file_lines s before number ps =
    map
    (λ p. record {
      at = at_line number (p.0 + 1);
      section = separators_before s before + separators s.form (take p.0 ps);
      piece = p.1;
    })
    (enumerate_from 0 ps)

-- the lines of a log: those of its files, in their order
abbrev pub lines_of : Setting → List (List ℕ) → List Line
lines_of s files = flat_map (λ f. file_lines s (take f.0 files) f.0 (pieces f.1)) (enumerate_from 0 files)

-- the event of a line, if it is one: its key names the file, and the separators before the line
abbrev pub own_events : Setting → Line → List KeyedEvent
own_events s l = line_events (key_file s l.at.file) l.section (decided_piece s.form l.piece)

-- the events of lines
abbrev pub events_at : Setting → List Line → List KeyedEvent
events_at s lines = flat_map (own_events s) lines

-- the refusal of a line after these lines
abbrev pub refusal_after : Setting → List Line → Line → Option ReadError
refusal_after s front l = piece_refusal s l.at (events_at s front) l.piece

-- none of these lines is refused after those before it
abbrev pub AreTaken : Setting → List Line → Type 0
AreTaken s lines =
    (front : List Line) (l : Line) (rest : List Line) → lines ≡ front ++ l ∷ rest
    → refusal_after s front l ≡ None

-- a line that is decided, or skipped
abbrev pub IsTaken : Bool → Decided → Type 0
IsTaken ignore (Event typ trace time) = ⊤
IsTaken ignore Skip = ⊤
IsTaken ignore Separator = ⊤
IsTaken ignore Undecided = IsTrue ignore
IsTaken ignore BadTime = ⊥

-- how many bytes these files have together
abbrev pub total_bytes : List (List ℕ) → ℕ
total_bytes files = sum_by length files

-- the files, up to one byte past this many
abbrev pub up_to : ℕ → List (List ℕ) → List (List ℕ)
up_to room [] = []
up_to room (bytes ∷ files) =
    if nat_lt room (length bytes) then take (room + 1) bytes ∷ []
    else bytes ∷ up_to (room - length bytes) files

-- the refusal of a line with these after it, after those before it: if the limit on all input
-- is passed, the last line is the one with the byte past it
abbrev pub own_refusal : Setting → Bool → List Line → Line → List Line → Option ReadError
own_refusal s passed front l rest =
    if passed && length rest == 0 then Some (limit_refusal l.at l.piece) else refusal_after s front l

-- the first of these lines that is refused: it is refused with this error, and none before it is
pub record IsFirstRefused (s : Setting) (passed : Bool) (lines : List Line) (e : ReadError) : Type 0 where
  pub front : List Line
  pub line : Line
  pub rest : List Line
  pub is : lines ≡ front ++ line ∷ rest
  pub nothing : AreTaken s front
  pub refused : own_refusal s passed front line rest ≡ Some e

-- what the first refusal of a log says of its lines
abbrev pub TellsRefusal : Setting → List (List ℕ) → Option ReadError → Type 0
TellsRefusal s files None = (total_bytes files ≤ MAX_INPUT_BYTES) × AreTaken s (lines_of s files)
TellsRefusal s files (Some e) =
    IsFirstRefused s (nat_lt MAX_INPUT_BYTES (total_bytes files)) (lines_of s (up_to MAX_INPUT_BYTES files)) e

-- if a log is not refused, each of its lines is decided or skipped
abbrev pub AllTaken : Setting → List (List ℕ) → Type 0
AllTaken s files =
    first_refusal s files ≡ None
    → (front : List Line) (l : Line) (rest : List Line) → lines_of s files ≡ front ++ l ∷ rest
    → IsTaken s.ignore (decided_piece s.form l.piece)

-- the file with the first byte past this many: those before it are within, and with it they are not
abbrev pub TellsPast : ℕ → List (List ℕ) → Option ℕ → Type 0
TellsPast room files None = total_bytes files ≤ room
TellsPast room files (Some number) =
    (number < length files) × (total_bytes (take number files) ≤ room)
    × (room < total_bytes (take (number + 1) files))
