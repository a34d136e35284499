-- The undecided lines of a log.
use Rattle.std.specs.Prelude.{ℕ, Bool, true, false, List, [], ◌∷◌, map, filter}
use Rattle.lines.specs.Lines.{line_of}
use Rattle.log_reader.specs.LogLines.{Line}
use Rattle.log_reader.specs.Reading as spec
use Rattle.log_reader.specs.Reading.{Decided, Setting, decided_piece}
use Rattle.log_reader.specs.declared.refusal.At.{At}
use Rattle.log_reader.specs.declared.taken.Taken.{Taken}
use Rattle.log_reader.specs.declared.taken.Taken.TheVariants as taken
use Rattle.events.specs.declared.undecided.UndecidedLine.{UndecidedLine}

-- whether nothing decides the line
abbrev pub is_undecided : Decided → Bool
is_undecided spec.Undecided = true
is_undecided _ = false

-- the undecided lines, each with its place and its bytes, in their order
abbrev pub undecided_lines : Setting → List Line → List (At × List ℕ)
undecided_lines s lines =
    map (λ l. (l.at, line_of l.piece)) (filter (λ l. is_undecided (decided_piece s.form l.piece)) lines)

-- undecided lines as contracts see them
abbrev pub shown_lines : List UndecidedLine → List (At × List ℕ)
shown_lines lines = map (λ line. (line.at, line.bytes.items)) lines

-- the line at this place, if it was taken as undecided
abbrev pub undecided_of : At → List ℕ → Taken → List (At × List ℕ)
undecided_of at bytes taken.Undecided = (at, bytes) ∷ []
undecided_of at bytes taken.Nothing = []
undecided_of at bytes (taken.Event placed time) = []
