-- The inputs of a log, and why reading them ends as it does.
use Rattle.std.specs.Prelude.{ℕ, ◌≡◌, ◌≤◌, ◌<◌, ◌⊎◌, ◌+◌, ◌-◌, ◌^◌, min, nat_lt, if◌then◌else◌}
use Rattle.std.specs.Prelude.{List, [], ◌∷◌, length, take, slice_get, IsTrue, IsSomeAnd, Option, Some, None, option_map, ⊤}
use Rattle.std.specs.Io.KnownBytes.{IsAtEnd}
use Rattle.limits.specs.declared.TheConstants.{MAX_INPUT_BYTES}
use Rattle.outside.specs.Counts.{Rose}
use Rattle.outside.specs.Inputs.{Files, InputState, bytes_of}
use Rattle.outside.specs.Reading.{IfTold, LosesFront}
use Rattle.outside.specs.Turns.{OpensInTurn}
pub use Rattle.outside.specs.Turns.{opens_after}
use Rattle.traces.specs.Words.{Log, log_of}
use Rattle.log_reader.specs.Reading.{Setting, events_of, first_refusal}
use Rattle.log_reader.specs.LogLines.{total_bytes}
use Rattle.log_reader.specs.declared.refusal.ReadError.{ReadError}
use Rattle.log_reader.specs.declared.refusal.ReadError.TheVariants as refused

-- the names of the inputs: without any name, standard input
abbrev pub inputs_of : List (List ℕ) → List (List ℕ)
inputs_of [] = [] ∷ []
inputs_of (name ∷ names) = name ∷ names

-- the bytes of a file before those of the next ones; nothing if it is missing
abbrev pub with_content : Option (List ℕ) → List (List ℕ) → List (List ℕ)
with_content None contents = []
with_content (Some bytes) contents = bytes ∷ contents

-- the bytes of the named files, up to the first that is missing
abbrev pub told_contents : Files → List (List ℕ) → List (List ℕ)
told_contents files [] = []
told_contents files (name ∷ names) = with_content (bytes_of files name) (told_contents files names)

-- the number of the first missing file: this one, or a later one
abbrev pub lacking : Option (List ℕ) → Option ℕ → Option ℕ
lacking None later = Some 0
lacking (Some bytes) later = option_map (λ number. number + 1) later

-- the number of the first named file that is missing
abbrev pub first_lacking : Files → List (List ℕ) → Option ℕ
first_lacking files [] = None
first_lacking files (name ∷ names) = lacking (bytes_of files name) (first_lacking files names)

-- if files are known, P holds of the bytes of the inputs up to the first that is missing; if not, of
-- some bytes for a prefix of the inputs
abbrev pub SomeContents : Option Files → List (List ℕ) → (List (List ℕ) → Type 0) → Type 0
SomeContents None names P =
    (contents : List (List ℕ)) × (length contents ≤ length names) × P contents
SomeContents (Some files) names P = P (told_contents files names)

-- this many more inputs were opened, and no fault was counted
pub record Opened (count : ℕ) (old new : InputState) : Type 0 where
  pub opens : new.opens ≡ min (old.opens + count) (2 ^ 64 - 1)
  pub faults : new.faults ≡ old.faults

-- the log is that of the inputs: each was read to its end, and nothing in them is refused
pub record ReadsLog (s : Setting) (names : List (List ℕ)) (old new : InputState) (log : Log) : Type 0 where
  pub words : SomeContents old.files names (λ contents.
      (length contents ≡ length names) × (first_refusal s contents ≡ None)
      × (log ≡ log_of (events_of s contents)))
  pub opened : Opened (length names) old new
  pub at_end : IsAtEnd new.rest
  pub turn : OpensInTurn names old new

-- the number of the file with the first byte past this many, counted from 0
abbrev pub file_past : ℕ → List (List ℕ) → Option ℕ
file_past room [] = None
file_past room (bytes ∷ files) =
    if nat_lt room (length bytes) then Some 0
    else option_map (λ number. number + 1) (file_past (room - length bytes) files)

-- the number of the input at which reading stops, over these bytes: the one with the line that is
-- refused, or with the byte past the limit on all input
abbrev pub refused_input : ReadError → List (List ℕ) → Option ℕ
refused_input (refused.LineTooLong at) contents = Some at.file
refused_input (refused.Undecided at) contents = Some at.file
refused_input (refused.BadTime at) contents = Some at.file
refused_input (refused.TypeTooLong at) contents = Some at.file
refused_input (refused.TraceTooLong at) contents = Some at.file
refused_input (refused.TypeLimit at) contents = Some at.file
refused_input (refused.EventLimit at) contents = Some at.file
refused_input refused.InputLimit contents = file_past MAX_INPUT_BYTES contents
refused_input (refused.ReadFault number) contents = None
refused_input refused.Memory contents = None

-- this is the first refusal, and reading stops at the input with this number
abbrev pub IsRefusedAt : Setting → ReadError → ℕ → List (List ℕ) → Type 0
IsRefusedAt s e number contents =
    (first_refusal s contents ≡ Some e) × (refused_input e contents ≡ Some number)

-- files are known, the one with this number is the first that is missing, and nothing in those
-- before it is refused
abbrev pub IsLacking : Setting → Option Files → List (List ℕ) → ℕ → Type 0
IsLacking s None names number = ⊥
IsLacking s (Some files) names number =
    (first_lacking files names ≡ Some number) × (first_refusal s (told_contents files names) ≡ None)

-- the inputs before the one with this number were opened, and no others, and nothing is open
pub record StopsBefore (number : ℕ) (old new : InputState) : Type 0 where
  pub opens : new.opens ≡ opens_after old.opens number
  pub closed : new.rest ≡ Some []

-- if files are known, the named ones leave this much room of the limit on all input
abbrev pub LeavesRoom : Option Files → List (List ℕ) → ℕ → Type 0
LeavesRoom None names room = ⊤
LeavesRoom (Some files) names room = total_bytes (told_contents files names) + room ≡ MAX_INPUT_BYTES

-- the inputs up to the named one, which has this number, were opened, and no others; it is open,
-- and what is left follows some prefix, which has at most one byte past the room that the
-- inputs before it leave
pub record StopsWithin (names : List (List ℕ)) (number : ℕ) (old new : InputState)
    (name : List ℕ) : Type 0 where
  pub opens : new.opens ≡ opens_after old.opens (number + 1)
  pub mark : new.mark ≡ old.may_fail name
  pub room : ℕ
  pub before : LeavesRoom old.files (take number names) room
  pub left : IfTold old.files name (λ content. LosesFront (Some content) new.rest room)

-- the inputs have this first refusal, and those up to the one at which reading stops were opened,
-- and no others; that one is open, and what is left follows some prefix
pub record RefusesLog (s : Setting) (names : List (List ℕ)) (old new : InputState)
    (e : ReadError) : Type 0 where
  pub number : ℕ
  pub few : number < length names
  pub refusal : SomeContents old.files names (IsRefusedAt s e number)
  pub opened : Opened (number + 1) old new
  pub stops : IsSomeAnd (slice_get names number) (StopsWithin names number old new)

-- nothing changed, or the inputs up to some one were opened, and no others, and that one is open
abbrev pub StopsAnywhere : List (List ℕ) → InputState → InputState → Type 0
StopsAnywhere names old new =
    (new ≡ old) ⊎ ((number : ℕ) × IsSomeAnd (slice_get names number) (StopsWithin names number old new))

-- a fault was counted, and the input with this number may fail
abbrev pub MayFail : List (List ℕ) → InputState → InputState → ℕ → Type 0
MayFail names old new number =
    Rose old.faults new.faults × IsSomeAnd (slice_get names number) (λ name. IsTrue (old.may_fail name))

-- the input with this number failed at its opening, or at a read after it; if files are known, those before
-- it keep the limit on all input
pub record Fails (names : List (List ℕ)) (old new : InputState) (number : ℕ) : Type 0 where
  pub fault : MayFail names old new number
  pub room : ℕ
  pub before : LeavesRoom old.files (take number names) room
  pub stops : StopsBefore number old new
      ⊎ IsSomeAnd (slice_get names number) (StopsWithin names number old new)

-- the input with this number is the first that is missing, nothing before it is refused, and no
-- fault was counted
abbrev pub IsMissing : Setting → List (List ℕ) → InputState → InputState → ℕ → Type 0
IsMissing s names old new number =
    IsLacking s old.files names number × StopsBefore number old new × (new.faults ≡ old.faults)

-- why a log is refused with this error, and what was opened
abbrev pub HasReadCause : Setting → List (List ℕ) → InputState → InputState → ReadError → Type 0
HasReadCause s names old new (refused.ReadFault number) =
    Fails names old new number ⊎ IsMissing s names old new number
HasReadCause s names old new refused.Memory = StopsAnywhere names old new
HasReadCause s names old new e = RefusesLog s names old new e
