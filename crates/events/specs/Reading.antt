-- The events and the undecided lines of a log of several inputs.
use Rattle.std.specs.Prelude.{ℕ, ◌≡◌, List, length, None}
use Rattle.std.specs.Io.KnownBytes.{IsAtEnd}
use Rattle.outside.specs.Inputs.{InputState}
use Rattle.outside.specs.Turns.{OpensInTurn}
use Rattle.traces.specs.Words.{Log, log_of}
use Rattle.log_reader.specs.Inputs.{Opened, SomeContents}
use Rattle.log_reader.specs.LogLines.{lines_of}
use Rattle.log_reader.specs.Reading.{Setting, events_of, first_refusal}
use Rattle.log_reader.specs.declared.refusal.At.{At}
use Rattle.events.specs.Located.{events_located}
use Rattle.events.specs.Undecided.{undecided_lines}
use Rattle.events.specs.declared.located.Located.{Located}

-- each input was read to its end, nothing in them is refused, and P holds of their bytes
pub record ReadsAll (s : Setting) (names : List (List ℕ)) (old new : InputState)
    (P : List (List ℕ) → Type 0) : Type 0 where
  pub words : SomeContents old.files names (λ contents.
      (length contents ≡ length names) × (first_refusal s contents ≡ None) × P contents)
  pub opened : Opened (length names) old new
  pub at_end : IsAtEnd new.rest
  pub turn : OpensInTurn names old new

-- the log is that of the inputs, and these are the events of their lines
abbrev pub ReadsEvents : Setting → List (List ℕ) → InputState → InputState → Log → List Located → Type 0
ReadsEvents s names old new log located =
    ReadsAll s names old new
    (λ contents. (log ≡ log_of (events_of s contents)) × (located ≡ events_located s (lines_of s contents)))

-- these are the undecided lines of the inputs
abbrev pub ReadsUndecided : Setting → List (List ℕ) → InputState → InputState → List (At × List ℕ) → Type 0
ReadsUndecided s names old new undecided =
    ReadsAll s names old new (λ contents. undecided ≡ undecided_lines s (lines_of s contents))
