-- What takes in the lines of a log, as contracts see it, and what each line changes in it.
use Rattle.std.specs.Prelude.{ℕ, ◌≡◌, ◌≤◌, ◌+◌, Bool, List, [], ◌∷◌, ◌++◌, None}
use Rattle.lines.specs.Lines.{line_of, pieces}
use Rattle.log_reader.specs.Reading.{Form, Setting, at_line, decided_piece, line_refusal, next_section, pieces_refusal, section_after, section_at_end}
use Rattle.log_reader.specs.LogLines.{Line, events_at}
use Rattle.log_reader.specs.SoFar.{IsGatheredOf, IsReady, IsRefusal, setting_of}
use Rattle.log_reader.specs.declared.reader.LogReader.{LogReader}
use Rattle.log_reader.specs.declared.refusal.At.{At}
use Rattle.log_reader.specs.declared.refusal.ReadError.{ReadError}

-- what contracts see of it
pub record Taker : Type 1 where
  -- it may be handed a line
  pub ready : Type 0
  -- how it reads
  pub setting : Setting
  -- how many separators are before the next line: in its file, or in all files if they are joined
  pub section : ℕ
  -- it has taken in these lines, and no others
  pub has : List Line → Type 0

-- a line of its parts
abbrev pub line_by : At → ℕ → List ℕ → Line
line_by at section piece = record { at = at; section = section; piece = piece }

-- the line of a piece is not refused, and is taken in
pub record TakesPiece (at : At) (piece : List ℕ) (old new : Taker) : Type 0 where
  pub ready : new.ready
  pub setting : new.setting ≡ old.setting
  pub section : new.section ≡ section_after old.section (decided_piece old.setting.form piece)
  pub refusal : (lines : List Line) → old.has lines
      → line_refusal old.setting.ignore at (events_at old.setting lines) (decided_piece old.setting.form piece) ≡ None
  pub has : (lines : List Line) → old.has lines → new.has (lines ++ line_by at old.section piece ∷ [])

-- each piece whose line is these bytes is taken in
abbrev pub TakesLineOf : At → List ℕ → Taker → Taker → Type 0
TakesLineOf at bytes old new = (piece : List ℕ) → line_of piece ≡ bytes → TakesPiece at piece old new

-- each piece whose line is these bytes is refused with this error after the lines before it, or memory ran out
abbrev pub RefusesLineOf : At → List ℕ → Taker → ReadError → Type 0
RefusesLineOf at bytes old e =
    (piece : List ℕ) → line_of piece ≡ bytes → (lines : List Line) → old.has lines
    → IsRefusal (line_refusal old.setting.ignore at (events_at old.setting lines) (decided_piece old.setting.form piece)) e

-- a file ends: the sections of the next one are counted from 0 again, unless files are joined
pub record EndsFile (old new : Taker) : Type 0 where
  pub ready : old.ready → new.ready
  pub setting : new.setting ≡ old.setting
  pub section : new.section ≡ next_section old.setting old.section
  pub few : new.section ≤ old.section
  pub has : (lines : List Line) → old.has lines → new.has lines

-- the lines of pieces; the first has this number and section
abbrev pub piece_lines : Form → ℕ → ℕ → ℕ → List (List ℕ) → List Line
piece_lines form number section line [] = []
piece_lines form number section line (p ∷ ps) =
    record { at = at_line number line; section = section; piece = p }
    ∷ piece_lines form number (section_after section (decided_piece form p)) (line + 1) ps

-- the lines of files; the first has this number and begins in this section
abbrev pub files_lines : Setting → ℕ → ℕ → List (List ℕ) → List Line
files_lines s number section [] = []
files_lines s number section (bytes ∷ files) =
    piece_lines s.form number section 1 (pieces bytes)
    ++ files_lines s (number + 1) (next_section s (section_at_end s.form section (pieces bytes))) files

-- the pieces of a file that follows these lines are not refused, and their lines are taken in
pub record PiecesAreTaken (s : Setting) (number : ℕ) (cut : Bool) (section : ℕ) (ps : List (List ℕ))
    (lines : List Line) (has : List Line → Type 0) : Type 0 where
  pub refusal : pieces_refusal s number cut section (events_at s lines) 1 ps ≡ None
  pub taken : has (lines ++ piece_lines s.form number section 1 ps)

-- the pieces of a file are not refused, and their lines are taken in
pub record TakesPieces (number : ℕ) (cut : Bool) (ps : List (List ℕ)) (old new : Taker) : Type 0 where
  pub ready : new.ready
  pub setting : new.setting ≡ old.setting
  pub section : new.section ≡ section_at_end old.setting.form old.section ps
  pub has : (lines : List Line) → old.has lines
      → PiecesAreTaken old.setting number cut old.section ps lines new.has

-- the first refusal of the pieces of a file is this error, or memory ran out
abbrev pub IsPiecesRefusal : ℕ → Bool → List (List ℕ) → Taker → ReadError → Type 0
IsPiecesRefusal number cut ps old e =
    (lines : List Line) → old.has lines
    → IsRefusal (pieces_refusal old.setting number cut old.section (events_at old.setting lines) 1 ps) e

-- a reader that gathers the traces of a log
abbrev pub taker : LogReader → Taker
taker reader = record {
  ready = IsReady reader;
  setting = setting_of reader;
  section = reader.log.section;
  has = λ lines. IsGatheredOf reader.log.builder (events_at (setting_of reader) lines);
}
