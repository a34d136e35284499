-- A reader that gathers the traces of a log takes in its lines.
use Rattle.std.proofs.Common.{◌≡◌, ◌≤◌, ℕ, List, [], ◌∷◌, ◌++◌, sym, ap, ◌∙◌, subst}
use Rattle.traces.specs.Words.{gathered_of}
use Rattle.log_reader.specs.Reading.{Form, Setting, Decided, decided_piece, next_section}
use Rattle.log_reader.specs.LogLines.{Line, events_at}
use Rattle.log_reader.specs.SoFar.{IsGatheredOf, IsReady, IsRefusal, ReadsText, decided_line, decider_view, refusal_in, setting_of}
use Rattle.log_reader.specs.Taking.{EndsFile, RefusesLineOf, TakesLineOf, line_by, taker}
use Rattle.log_reader.specs.declared.reader.LogReader.{LogReader}
use Rattle.log_reader.specs.declared.refusal.At.{At}
use Rattle.log_reader.specs.declared.refusal.ReadError.{ReadError}
use Rattle.log_reader.proofs.LinesOfLog.{events-with}
use Rattle.log_reader.proofs.PieceByPiece.{same-refusal}

-- it reads on by the same setting
same-setting : (at : At) (d : Decided) (old new : LogReader) → ReadsText at d old new → setting_of new ≡ setting_of old
same-setting at d old new reads =
    let S : Form → _ → _ → Setting = λ f i j. record { form = f; ignore = i; join = j } in
    ap (λ f. S f new.log.ignore new.log.join) reads.form
    ∙ (ap (λ i. S (decider_view old.decider) i new.log.join) reads.takes.ignore ∙ ap (λ j. S (decider_view old.decider) old.log.ignore j) reads.takes.join)

-- a line that was read is taken in
pub takes-line : (at : At) (bytes : List ℕ) (old new : LogReader) → ReadsText at (decided_line (setting_of old).form bytes) old new → TakesLineOf at bytes (taker old) (taker new)
takes-line at bytes old new reads = λ piece is.
    let s = setting_of old in
    let d = decided_piece s.form piece in
    let same : decided_line s.form bytes ≡ d = ap (decided_line s.form) (sym is) in
    let read : ReadsText at d old new = subst (λ d. ReadsText at d old new) same reads in
    let setting : setting_of new ≡ s = same-setting at d old new read in
    let l : Line = line_by at old.log.section piece in
    record {
      ready = record { matchers = read.matchers; within = read.takes.within };
      setting = setting;
      section = read.takes.section;
      refusal = λ lines has. same-refusal s.ignore at old.log.builder (events_at s lines) has d ∙ read.takes.refusal;
      has = λ lines has. subst (λ t. IsGatheredOf new.log.builder (events_at t (lines ++ l ∷ []))) (sym setting)
          (read.takes.log (events_at s lines) has ∙ ap gathered_of (sym (events-with s lines l)));
    }

-- a line that is refused is refused by what was taken in before it
pub refuses-line : (at : At) (bytes : List ℕ) (old : LogReader) (e : ReadError) → IsRefusal (refusal_in (setting_of old).ignore at old.log.builder (decided_line (setting_of old).form bytes)) e
    → RefusesLineOf at bytes (taker old) e
refuses-line at bytes old e refusal = λ piece is lines has.
    let s = setting_of old in
    let same : decided_line s.form bytes ≡ decided_piece s.form piece = ap (decided_line s.form) (sym is) in
    subst (λ o. IsRefusal o e) (ap (refusal_in s.ignore at old.log.builder) same ∙ sym (same-refusal s.ignore at old.log.builder (events_at s lines) has (decided_piece s.form piece))) refusal

-- a file ends
pub ends-file : (old new : LogReader) → new.log.section ≡ next_section (setting_of old) old.log.section → new.log.section ≤ old.log.section → setting_of new ≡ setting_of old → (IsReady old → IsReady new)
    → new.log.builder ≡ old.log.builder → EndsFile (taker old) (taker new)
ends-file old new section few setting ready log = record {
  ready = ready;
  setting = setting;
  section = section;
  few = few;
  has = λ lines has. subst (λ t. IsGatheredOf new.log.builder (events_at t lines)) (sym setting) (log ∙ has);
}
