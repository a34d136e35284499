-- The buffer of a reader of lines.
use Rattle.std.specs.Prelude.{ℕ, ◌≡◌, ◌≤◌, ◌<◌, ◌+◌, ◌-◌, Bool, true, false, IsTrue, ⊤}
use Rattle.std.specs.Prelude.{List, [], length, take, drop, Option, Some, None, Result, Ok, Err}
use Rattle.std.specs.Io.KnownBytes.{Consumes, IsAtEnd, Keeps}
use Rattle.std.specs.List.{position_or_len, slice_index}
use Rattle.limits.specs.declared.TheConstants.{MAX_INPUT_BYTES, MAX_LINE_BYTES}
use Rattle.outside.specs.Counts.{Rose}
use Rattle.outside.specs.Inputs.{InputState}
use Rattle.lines.specs.Lines.{is_feed}
use Rattle.log_reader.specs.LineReader.{SeenLines, with_more, feed_bytes, NextGives}
use Rattle.log_reader.specs.declared.cut.Cut.{Cut}
use Rattle.log_reader.specs.declared.cut.Extent.{Extent}
use Rattle.log_reader.specs.declared.line_error.LineError.{LineError}
use Rattle.log_reader.specs.declared.line_error.LineError.TheVariants.{ReadFault, TooLong, InputLimit}
use Rattle.log_reader.specs.declared.line_reader.buffer.TheConstants.{BUFFER_BYTES}

-- the bytes of a buffer from one place up to another
abbrev pub part_of : List ℕ → ℕ → ℕ → List ℕ
part_of buf from to = take (to - from) (drop from buf)

-- the bytes of the line in a buffer, if there is one
abbrev pub line_in : List ℕ → Option Extent → Option (List ℕ)
line_in buf None = None
line_in buf (Some part) = Some (part_of buf part.from part.to)

-- the line, if there is one, is within this many bytes
abbrev pub IsLineWithin : ℕ → Option Extent → Type 0
IsLineWithin size None = ⊤
IsLineWithin size (Some part) = (part.from ≤ part.to) × (part.to ≤ size)

-- all bytes from one place up to another are ASCII
abbrev pub IsClean : ℕ → ℕ → List ℕ → Type 0
IsClean clean_from to buf = (i : ℕ) → clean_from ≤ i → i < to → slice_index buf i < 128

-- a buffer and the counts of its reader: at most one byte past the limit on all input was read
pub record IsSound (buf : List ℕ) (from to : ℕ) (line : Option Extent) (number taken : ℕ) : Type 0 where
  pub size : length buf ≡ BUFFER_BYTES
  pub order : from ≤ to
  pub inside : to ≤ BUFFER_BYTES
  pub placed : IsLineWithin to line
  pub counted : number ≤ taken
  pub limit : taken ≤ MAX_INPUT_BYTES
  pub within : taken + (to - from) ≤ MAX_INPUT_BYTES + 1

-- what a read into a buffer after this many bytes leaves
abbrev pub ReadsBehind : {E : Type 0} → InputState → ℕ → ℕ → List ℕ → Result ℕ E → List ℕ → InputState
    → Type 0
ReadsBehind before held room old (Ok n) new after =
    (n ≤ room) × (take held new ≡ take held old) × Consumes before.rest after.rest (take n (drop held new))
    × (n ≡ 0 → IsAtEnd after.rest) × (after.faults ≡ before.faults)
ReadsBehind before held room old (Err e) new after =
    (take held new ≡ take held old) × Keeps before.rest after.rest
    × Rose before.faults after.faults × IsTrue before.mark

-- bytes were read after those that are buffered: some, or none at the end
pub record ReadsMore (old new : SeenLines) (before after : InputState) (more : Bool) : Type 0 where
  pub got : List ℕ
  pub read : Consumes before.rest after.rest got
  pub faults : after.faults ≡ before.faults
  pub leaves : new ≡ with_more old got
  pub some : more ≡ true → 0 < length got
  pub none : more ≡ false → (got ≡ []) × IsAtEnd after.rest

-- a read failed, and nothing more is buffered
pub record ReadsNone (old new : SeenLines) (before after : InputState) : Type 0 where
  pub rest : Keeps before.rest after.rest
  pub rose : Rose before.faults after.faults
  pub mark : IsTrue before.mark
  pub same : new ≡ old

-- what `fill` leaves at each answer
abbrev pub FillGives : {E : Type 0} → SeenLines → InputState → Result Bool E → SeenLines → InputState → Type 0
FillGives old before (Ok more) new after = ReadsMore old new before after more
FillGives old before (Err e) new after = ReadsNone old new before after

-- a piece is within the limits, after lines that have taken this many bytes
pub record IsWithinLimits (taken : ℕ) (cut : Cut) : Type 0 where
  pub short : cut.length ≤ MAX_LINE_BYTES
  pub within : taken + cut.length + feed_bytes cut.fed ≤ MAX_INPUT_BYTES

-- why a piece is not within the limits
abbrev pub PassesLimit : ℕ → Cut → LineError → Type 0
PassesLimit taken cut ReadFault = ⊥
PassesLimit taken cut TooLong = MAX_LINE_BYTES < cut.length
PassesLimit taken cut InputLimit =
    (cut.length ≤ MAX_LINE_BYTES) × (MAX_INPUT_BYTES < taken + cut.length + feed_bytes cut.fed)

-- the end of the first piece to come is found and buffered
pub record FindsEnd (old new : SeenLines) (before after : InputState) (cut : Cut) : Type 0 where
  pub got : List ℕ
  pub read : Consumes before.rest after.rest got
  pub faults : after.faults ≡ before.faults
  pub leaves : new ≡ with_more old got
  pub first : cut.length ≡ position_or_len is_feed new.buffered
  pub inside : cut.length + feed_bytes cut.fed ≤ length new.buffered
  pub at_end : cut.fed ≡ false → (length new.buffered ≡ cut.length) × IsAtEnd after.rest
  pub limits : IsWithinLimits old.taken cut

-- the end of the first piece is not found: a read failed, or the piece is refused
abbrev pub MissesEnd : SeenLines → InputState → LineError → SeenLines → InputState → Type 0
MissesEnd old before e new after = NextGives old before (Err e) (record new { refused = true }) after
