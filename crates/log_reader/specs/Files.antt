-- What reading one input of a log leaves.
use Rattle.std.specs.Prelude.{ℕ, ◌≡◌, ◌≤◌, ◌+◌, ◌-◌, ◌⊎◌, List, [], ◌∷◌, ◌++◌, length, take, nat_lt, false, IsTrue, Option, Some, None, Err}
use Rattle.std.specs.Io.KnownBytes.{Consumes, IsAtEnd}
use Rattle.limits.specs.declared.TheConstants.{MAX_INPUT_BYTES}
use Rattle.outside.specs.Counts.{Rose, next_call}
use Rattle.outside.specs.Inputs.{Files, InputState, Lacks, TellsFile, bytes_of}
use Rattle.outside.specs.Reading.{InputGives, LosesFront, OpensNamed, OpensNone}
use Rattle.outside.specs.Turns.{OpensInTurn}
use Rattle.outside.specs.declared.reading.InputError.TheVariants.{Fault, Missing}
use Rattle.lines.specs.Lines.{pieces}
use Rattle.log_reader.specs.Inputs.{Opened, SomeContents, StopsAnywhere}
use Rattle.log_reader.specs.Reading.{Setting, bytes_refusal, first_refusal, next_section, section_at_end}
use Rattle.log_reader.specs.LineReader.{SeenLines}
use Rattle.log_reader.specs.LogLines.{Line, events_at, lines_of}
use Rattle.log_reader.specs.Taking.{IsPiecesRefusal, Taker, TakesPieces, piece_lines}
use Rattle.log_reader.specs.declared.refusal.ReadError.{ReadError}
use Rattle.log_reader.specs.declared.refusal.ReadError.TheVariants as refused

-- if files are known, the named one has these bytes
abbrev pub HasContent : Option Files → List ℕ → List ℕ → Type 0
HasContent None name content = Unit {0}
HasContent (Some files) name content = bytes_of files name ≡ Some content

-- a file that follows these lines is not refused, and its lines are taken in
pub record FileIsRead (s : Setting) (number room section : ℕ) (content : List ℕ)
    (lines : List Line) (has : List Line → Type 0) : Type 0 where
  pub refusal : bytes_refusal s number section (events_at s lines) room content ≡ None
  pub taken : has (lines ++ piece_lines s.form number section 1 (pieces content))

-- the input with this number was read to its end and is not refused, its lines are taken in, and this
-- much room is left
pub record ReadsFile (before after : InputState) (name : List ℕ) (number room left : ℕ)
    (old new : Taker) : Type 0 where
  pub opens : after.opens ≡ next_call before.opens
  pub faults : after.faults ≡ before.faults
  pub at_end : IsAtEnd after.rest
  pub content : List ℕ
  pub told : HasContent before.files name content
  pub room_left : length content + left ≡ room
  pub ready : new.ready
  pub setting : new.setting ≡ old.setting
  pub few : new.section + left ≤ old.section + room
  pub section : new.section
      ≡ next_section old.setting (section_at_end old.setting.form old.section (pieces content))
  pub has : (lines : List Line) → old.has lines
      → FileIsRead old.setting number room old.section content lines new.has

-- the bytes that are left, as far as they are known
abbrev pub known_rest : Option (List ℕ) → List ℕ
known_rest None = []
known_rest (Some rest) = rest

-- the open input, which has this number, was read to its end and is not refused, and its lines are
-- taken in
pub record ReadsLines (before after : InputState) (number : ℕ) (first last : SeenLines)
    (old new : Taker) : Type 0 where
  pub bytes : List ℕ
  pub read : Consumes before.rest after.rest bytes
  pub at_end : IsAtEnd after.rest
  pub faults : after.faults ≡ before.faults
  pub nothing : last.buffered ≡ []
  pub refused : last.refused ≡ false
  pub taken : last.taken ≡ first.taken + length bytes
  pub within : last.taken ≤ MAX_INPUT_BYTES
  pub few : new.section + (MAX_INPUT_BYTES - last.taken)
      ≤ old.section + (MAX_INPUT_BYTES - first.taken)
  pub pieces : TakesPieces number false (pieces bytes) old new

-- the open input, which has this number, is first refused with this error, or memory ran out, after the
-- lines that were taken in
pub record RefusesLines (before after : InputState) (number : ℕ) (first : SeenLines) (old : Taker)
    (e : ReadError) : Type 0 where
  pub bytes : List ℕ
  pub read : Consumes before.rest after.rest bytes
  pub faults : after.faults ≡ before.faults
  pub refusal :
      let content : List ℕ = bytes ++ known_rest after.rest in
      let room : ℕ = MAX_INPUT_BYTES - first.taken in
      IsPiecesRefusal number (nat_lt room (length content)) (pieces (take (room + 1) content)) old e

-- a read of the open input, which has this number, failed after some prefix of it
pub record FailsWithin (before after : InputState) (number : ℕ) (first : SeenLines)
    (e : ReadError) : Type 0 where
  pub answer : e ≡ refused.ReadFault number
  pub rose : Rose before.faults after.faults
  pub mark : IsTrue before.mark
  pub left : LosesFront before.rest after.rest (MAX_INPUT_BYTES - first.taken)

-- why the lines of the open input are not taken in
abbrev pub HasLinesCause : InputState → InputState → ℕ → SeenLines → Taker → ReadError → Type 0
HasLinesCause before after number first old e =
    FailsWithin before after number first e ⊎ RefusesLines before after number first old e

-- a reader of lines between two inputs
pub record IsBetween (lines : SeenLines) : Type 0 where
  pub nothing : lines.buffered ≡ []
  pub refused : lines.refused ≡ false
  pub taken : lines.taken ≤ MAX_INPUT_BYTES

-- the input with this number was opened, and is first refused with this error after the lines that
-- were taken in
pub record RefusesFile (before after : InputState) (name : List ℕ) (number room : ℕ)
    (old : Taker) (e : ReadError) : Type 0 where
  pub opens : after.opens ≡ next_call before.opens
  pub faults : after.faults ≡ before.faults
  pub content : List ℕ
  pub told : HasContent before.files name content
  pub named : OpensNamed before after name room
  pub refusal : (lines : List Line) → old.has lines
      → bytes_refusal old.setting number old.section (events_at old.setting lines) room content ≡ Some e

-- the input with this number could not be read: it failed, or files are known and the name is not
-- among them
pub record IsUnread (before after : InputState) (name : List ℕ) (number room : ℕ)
    (e : ReadError) : Type 0 where
  pub answer : e ≡ refused.ReadFault number
  pub cause : InputGives before name room (Err Fault) after ⊎ InputGives before name room (Err Missing) after

-- the named input was opened; if files are known, all of its bytes are left
pub record IsOpened (before after : InputState) (name : List ℕ) : Type 0 where
  pub tells : TellsFile before.files name after.rest
  pub mark : after.mark ≡ before.may_fail name
  pub opens : after.opens ≡ next_call before.opens
  pub faults : after.faults ≡ before.faults
  pub turn : OpensInTurn (name ∷ []) before after

-- the input with this number failed at its opening, or files are known and the name is not among them; nothing is open
pub record IsNotOpened (before after : InputState) (name : List ℕ) (number : ℕ)
    (e : ReadError) : Type 0 where
  pub answer : e ≡ refused.ReadFault number
  pub cause : (Rose before.faults after.faults × IsTrue (before.may_fail name))
      ⊎ (Lacks before.files name × (after.faults ≡ before.faults))
  pub none : OpensNone before after
  pub turn : OpensInTurn [] before after

-- why the input with this number is refused with this error
abbrev pub HasFileCause : InputState → InputState → List ℕ → ℕ → ℕ → Taker → ReadError → Type 0
HasFileCause before after name number room old e =
    ((e ≡ refused.Memory) × OpensNamed before after name room)
    ⊎ (IsUnread before after name number room e ⊎ RefusesFile before after name number room old e)

-- the input of this name was opened, and no other, and it is open
abbrev pub OpensOne : List ℕ → ℕ → InputState → InputState → Type 0
OpensOne name room before after = OpensNamed before after name room × OpensInTurn (name ∷ []) before after

-- that, or no input was opened, and nothing is open
abbrev pub OpensFile : List ℕ → ℕ → InputState → InputState → Type 0
OpensFile name room before after =
    OpensOne name room before after ⊎ (OpensNone before after × OpensInTurn [] before after)

-- each input was read to its end, nothing in them is refused, and their lines were taken in
pub record ReadsInputs (s : Setting) (names : List (List ℕ)) (old new : InputState)
    (has : List Line → Type 0) : Type 0 where
  pub words : SomeContents old.files names (λ contents.
      (length contents ≡ length names) × (first_refusal s contents ≡ None)
      × has (lines_of s contents))
  pub opened : Opened (length names) old new
  pub at_end : IsAtEnd new.rest
  pub turn : OpensInTurn names old new
  pub last : StopsAnywhere names old new
