-- A reader that keeps the lines that nothing decides takes in the lines of a log.
use Rattle.std.proofs.Common.{◌≡◌, ℕ, List, [], ◌∷◌, ◌++◌, map, filter, if◌then◌else◌, refl, sym, ap, ◌∙◌}
use Rattle.std.proofs.lemmas.List.{map-append}
use Rattle.std.proofs.lemmas.List.Elements.{filter-append}
use Rattle.outside.specs.Inputs.{InputState}
use Rattle.lines.specs.Lines.{line_of}
use Rattle.traces.specs.Words.{Gathering}
use Rattle.log_reader.specs.Files.{ReadsInputs}
use Rattle.log_reader.specs.LogLines.{Line, events_at}
use Rattle.log_reader.specs.Reading as spec
use Rattle.log_reader.specs.Reading.{Decided, Setting, decided_piece}
use Rattle.log_reader.specs.SoFar.{IsGatheredOf, ReadsText, decided_line, setting_of, taken_for}
use Rattle.log_reader.specs.Taking.{EndsFile, RefusesLineOf, TakesLineOf, TakesPiece, line_by, taker}
use Rattle.log_reader.specs.declared.reader.LogReader.{LogReader}
use Rattle.log_reader.specs.declared.refusal.At.{At}
use Rattle.log_reader.specs.declared.refusal.ReadError.{ReadError}
use Rattle.log_reader.specs.declared.taken.Taken.{Taken}
use Rattle.log_reader.proofs.TakesLines.{takes-line}
use Rattle.events.specs.Reading.{ReadsUndecided}
use Rattle.events.specs.Takers.{collecting}
use Rattle.events.specs.Undecided.{is_undecided, shown_lines, undecided_lines, undecided_of}
use Rattle.events.specs.declared.undecided_reader.UndecidedReader.{UndecidedReader}
use Rattle.events.proofs.Locating.{reads-all}

abbrev placed_line : Line → At × List ℕ
placed_line l = (l.at, line_of l.piece)

-- a line that is decided so
own-undecided : (reader : LogReader) (l : Line) (d : Decided)
    → map placed_line (if is_undecided d then l ∷ [] else []) ≡ undecided_of l.at (line_of l.piece) (taken_for l.at d reader.log)
own-undecided reader l (spec.Event typ trace time) = refl
own-undecided reader l spec.Skip = refl
own-undecided reader l spec.Separator = refl
own-undecided reader l spec.Undecided = refl
own-undecided reader l spec.BadTime = refl

-- the lines so far, and one more
undecided-with : (reader : LogReader) (lines : List Line) (l : Line)
    → undecided_lines (setting_of reader) (lines ++ l ∷ [])
    ≡ undecided_lines (setting_of reader) lines ++ undecided_of l.at (line_of l.piece) (taken_for l.at (decided_piece (setting_of reader).form l.piece) reader.log)
undecided-with reader lines l =
    let s = setting_of reader in
    let passes = λ (l : Line). is_undecided (decided_piece s.form l.piece) in
    ap (map placed_line) (filter-append passes lines (l ∷ []))
    ∙ (map-append placed_line (filter passes lines) (filter passes (l ∷ []))
    ∙ ap (λ (xs : List (At × List ℕ)). undecided_lines s lines ++ xs) (own-undecided reader l (decided_piece s.form l.piece)))

-- a line that was read is taken in, and kept if nothing decides it
pub collects-line : (at : At) (bytes : List ℕ) (old new : UndecidedReader) (was : Taken) → ReadsText at (decided_line (setting_of old.reader).form bytes) old.reader new.reader
    → was ≡ taken_for at (decided_line (setting_of old.reader).form bytes) old.reader.log → shown_lines new.lines.items ≡ shown_lines old.lines.items ++ undecided_of at bytes was
    → TakesLineOf at bytes (collecting old) (collecting new)
collects-line at bytes old new was reads is put = λ piece of_piece.
    let s = setting_of old.reader in
    let l : Line = line_by at old.reader.log.section piece in
    let inner : TakesPiece at piece (taker old.reader) (taker new.reader) = takes-line at bytes old.reader new.reader reads piece of_piece in
    let d : was ≡ taken_for at (decided_piece s.form piece) old.reader.log = is ∙ ap (λ bs. taken_for at (decided_line s.form bs) old.reader.log) (sym of_piece) in
    record {
      ready = inner.ready;
      setting = inner.setting;
      section = inner.section;
      refusal = λ lines has. inner.refusal lines has.0;
      has = λ lines has. (
        inner.has lines has.0,
        put
            ∙ (ap (λ (xs : List (At × List ℕ)). xs ++ undecided_of at bytes was) has.1
            ∙ (ap (λ (t : Taken). undecided_lines s lines ++ undecided_of at bytes t) d
            ∙ (ap (λ bs. undecided_lines s lines ++ undecided_of at bs (taken_for at (decided_piece s.form piece) old.reader.log)) (sym of_piece)
            ∙ (sym (undecided-with old.reader lines l) ∙ ap (λ t. undecided_lines t (lines ++ l ∷ [])) (sym inner.setting))))),
      );
    }

-- a line that is refused is refused by what was taken in before it
pub refuses-undecided : (at : At) (bytes : List ℕ) (old : UndecidedReader) (e : ReadError) → RefusesLineOf at bytes (taker old.reader) e → RefusesLineOf at bytes (collecting old) e
refuses-undecided at bytes old e refuses = λ piece is lines has. refuses piece is lines has.0

-- a file ends
pub ends-file-of-undecided : (old new : UndecidedReader) → EndsFile (taker old.reader) (taker new.reader) → new.lines.items ≡ old.lines.items → EndsFile (collecting old) (collecting new)
ends-file-of-undecided old new ends same = record {
  ready = ends.ready;
  setting = ends.setting;
  section = ends.section;
  few = ends.few;
  has = λ lines has. (ends.has lines has.0, ap shown_lines same ∙ (has.1 ∙ ap (λ t. undecided_lines t lines) (sym ends.setting)));
}

-- the undecided lines of the inputs are what was kept of their lines
pub undecided-read : (s : Setting) (names : List (List ℕ)) (old now : InputState) (gathering : Gathering) (kept undecided : List (At × List ℕ))
    → ReadsInputs s names old now (λ lines. IsGatheredOf gathering (events_at s lines) × (kept ≡ undecided_lines s lines)) → undecided ≡ kept
    → ReadsUndecided s names old now undecided
undecided-read s names old now gathering kept undecided reads same = reads-all s names old now _ _ reads (λ contents has. same ∙ has.1)
