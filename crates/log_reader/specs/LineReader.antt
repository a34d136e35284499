-- A reader of lines: what contracts see of it, and what each of its calls gives.
use Rattle.std.specs.Prelude.{ℕ, ◌≡◌, ◌≤◌, ◌<◌, ◌+◌, ◌-◌, ◌==◌, ◌&&◌, Bool, true, false, IsTrue, if◌then◌else◌, nat_lt}
use Rattle.std.specs.Prelude.{List, [], ◌∷◌, ◌++◌, length, take, Option, Some, None, Result, Ok, Err}
use Rattle.std.specs.Io.KnownBytes.{Consumes, IsAtEnd}
use Rattle.std.specs.List.{list_any}
use Rattle.limits.specs.declared.TheConstants.{MAX_INPUT_BYTES, MAX_LINE_BYTES}
use Rattle.outside.specs.Counts.{Rose}
use Rattle.outside.specs.Inputs.{InputState}
use Rattle.lines.specs.Lines.{is_feed, line_of, pieces}
use Rattle.log_reader.specs.declared.line_error.LineError.{LineError}
use Rattle.log_reader.specs.declared.line_error.LineError.TheVariants.{ReadFault, TooLong, InputLimit}

-- what contracts see of a reader of lines
pub record SeenLines : Type 0 where
  -- the bytes that were read and that no line has taken
  pub buffered : List ℕ
  -- the current line, if there is one
  pub line : Option (List ℕ)
  -- whether a line feed ends it
  pub fed : Bool
  -- how many lines of the open input were given, and so the number of the current one
  pub number : ℕ
  -- how many bytes all lines have taken, line feeds among them, since the reader was made
  pub taken : ℕ
  -- whether a call was refused
  pub refused : Bool

-- a reader before the first input
abbrev pub unused_lines : SeenLines
unused_lines = record { buffered = []; line = None; fed = false; number = 0; taken = 0; refused = false }

-- without a current line
abbrev pub without_line : SeenLines → SeenLines
without_line s = record s { line = None; fed = false }

-- with these bytes buffered too
abbrev pub with_more : SeenLines → List ℕ → SeenLines
with_more s got = record s { buffered = s.buffered ++ got }

-- before the first line of an input
abbrev pub at_start : SeenLines → SeenLines
at_start s = record s { line = None; fed = false; number = 0 }

-- the line feed, if it ends the line
abbrev pub feed_if : Bool → List ℕ
feed_if fed = if fed then 10 ∷ [] else []

-- how many bytes that is
abbrev pub feed_bytes : Bool → ℕ
feed_bytes fed = if fed then 1 else 0

-- the refusal of the first of these pieces; if they are cut, the last one has the byte past the limit
-- on all input
abbrev pub first_piece_refusal : Bool → List (List ℕ) → Option LineError
first_piece_refusal cut [] = None
first_piece_refusal cut (piece ∷ rest) =
    if nat_lt MAX_LINE_BYTES (length piece) then Some TooLong
    else if cut && length rest == 0 then Some InputLimit
    else None

-- the refusal of the first piece of the bytes to come, after lines that have taken this many
abbrev pub refusal_to_come : ℕ → List ℕ → Option LineError
refusal_to_come taken bytes =
    first_piece_refusal (nat_lt (MAX_INPUT_BYTES - taken) (length bytes))
    (pieces (take (MAX_INPUT_BYTES - taken + 1) bytes))

-- A line was given. What was buffered and what was read for it begin with its piece and the line
-- feed that ends it; the others are buffered. If no line feed ends the piece, it is the last of
-- the input, and has a byte or more.
pub record GivesLine (old new : SeenLines) (before after : InputState) : Type 0 where
  pub got : List ℕ
  pub read : Consumes before.rest after.rest got
  pub faults : after.faults ≡ before.faults
  pub piece : List ℕ
  pub is : old.buffered ++ got ≡ piece ++ (feed_if new.fed ++ new.buffered)
  pub no_feed : list_any is_feed piece ≡ false
  pub last : new.fed ≡ false → (0 < length piece) × (new.buffered ≡ []) × IsAtEnd after.rest
  pub line : new.line ≡ Some (line_of piece)
  pub short : length piece ≤ MAX_LINE_BYTES
  pub number : new.number ≡ old.number + 1
  pub taken : new.taken ≡ old.taken + (length piece + feed_bytes new.fed)
  pub within : new.taken ≤ MAX_INPUT_BYTES
  pub refused : new.refused ≡ false

-- there is no line: no byte was buffered, and the input is at its end
pub record GivesNone (old new : SeenLines) (before after : InputState) : Type 0 where
  pub nothing : old.buffered ≡ []
  pub read : Consumes before.rest after.rest []
  pub at_end : IsAtEnd after.rest
  pub faults : after.faults ≡ before.faults
  pub same : new ≡ without_line old

-- the first piece to come is refused so, whatever follows what was read of it
pub record RefusesPiece (old new : SeenLines) (before after : InputState) (e : LineError) : Type 0 where
  pub got : List ℕ
  pub read : Consumes before.rest after.rest got
  pub faults : after.faults ≡ before.faults
  pub refusal : (more : List ℕ) → refusal_to_come old.taken ((old.buffered ++ got) ++ more) ≡ Some e
  pub leaves : new ≡ record (with_more (without_line old) got) { refused = true }

-- a read failed; what was read before it is buffered, with at most one byte past the limit
-- on all input
pub record FailsToRead (old new : SeenLines) (before after : InputState) : Type 0 where
  pub got : List ℕ
  pub read : Consumes before.rest after.rest got
  pub few : old.taken + length (old.buffered ++ got) ≤ MAX_INPUT_BYTES + 1
  pub rose : Rose before.faults after.faults
  pub mark : IsTrue before.mark
  pub leaves : new ≡ record (with_more (without_line old) got) { refused = true }

-- what `next` answers, and the state after it
abbrev pub NextGives : SeenLines → InputState → Result Bool LineError → SeenLines → InputState → Type 0
NextGives old before (Ok true) new after = GivesLine old new before after
NextGives old before (Ok false) new after = GivesNone old new before after
NextGives old before (Err ReadFault) new after = FailsToRead old new before after
NextGives old before (Err TooLong) new after = RefusesPiece old new before after TooLong
NextGives old before (Err InputLimit) new after = RefusesPiece old new before after InputLimit

-- the line that is given if these bytes of the input are left before it: the first of the bytes to
-- come, which is not refused; the others are to come after it
pub record TellsLine (old new : SeenLines) (rest : List ℕ) (after : Option (List ℕ)) : Type 0 where
  pub left : List ℕ
  pub is_left : after ≡ Some left
  pub piece : List ℕ
  pub first : pieces (old.buffered ++ rest) ≡ piece ∷ pieces (new.buffered ++ left)
  pub line : new.line ≡ Some (line_of piece)
  pub taken : new.taken + length (new.buffered ++ left) ≡ old.taken + length (old.buffered ++ rest)
  pub allowed : refusal_to_come old.taken (old.buffered ++ rest) ≡ None
