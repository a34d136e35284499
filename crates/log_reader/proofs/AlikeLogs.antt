-- Rules that are alike read logs alike.
use Rattle.std.proofs.Common.{◌≡◌, ℕ, ◌+◌, ◌-◌, ◌<◌, ◌==◌, ◌&&◌, Bool, List, [], ◌∷◌, ◌++◌, length, take, get_or, nat_lt, unwrap_or, Option, Some, Result, Ok, cond, refl, ap, ap₂, ◌∙◌}
use Rattle.limits.specs.declared.TheConstants.{MAX_INPUT_BYTES, MAX_LINE_BYTES}
use Rattle.lines.specs.Lines.{pieces, line_of, text_of}
use Rattle.traces.specs.Words.{Event as KeyedEvent}
use Rattle.line_rules.specs.Rules.{Rule, AreAlike, decision_of, part, type_text}
use Rattle.line_rules.specs.declared.decision.DecideError.{DecideError}
use Rattle.line_rules.specs.declared.decision.Decision.{Decision}
use Rattle.line_rules.specs.declared.decision.Decision.TheVariants as decision
use Rattle.line_rules.specs.declared.decision.Named.{Named}
use Rattle.line_rules.specs.declared.decision.Named.TheVariants as named
use Rattle.line_rules.proofs.Alike.{alike-decision, alike-name}
use Rattle.log_reader.specs.Reading as spec
use Rattle.log_reader.specs.Reading.{Form, Rules, Setting, setting, Decided, by_rules, decided, decided_piece, line_events, section_after, piece_events, section_at_end, key_file, next_section, file_events, events_of, first_of, piece_refusal, line_refusal, limit_refusal, at_line, pieces_refusal, bytes_refusal, files_refusal, first_refusal}
use Rattle.log_reader.specs.declared.refusal.ReadError.{ReadError}
use Rattle.log_reader.specs.declared.refusal.ReadError.TheVariants as refused
use Rattle.log_reader.proofs.TextIsBytes.{bytes-lossy}

same-type : (rs ss : List Rule) (text : List ℕ) → AreAlike rs ss → (name : Named) → type_text rs text name ≡ type_text ss text name
same-type rs ss text alike (named.Fixed number) = ap (λ (o : Option (List ℕ)). unwrap_or o []) (alike-name rs ss number alike)
same-type rs ss text alike (named.Part from to) = refl

same-by_rules : (rs ss : List Rule) (text : List ℕ) → AreAlike rs ss → (d : Result Decision DecideError) → by_rules rs text d ≡ by_rules ss text d
same-by_rules rs ss text alike (Ok (decision.Event name from to time)) = ap (λ typ. spec.Event typ (part text from to) time) (same-type rs ss text alike name)
same-by_rules rs ss text alike _ = refl

same-decided : (rs ss : List Rule) (text : List ℕ) → ((k : ℕ) → get_or text k 0 < 256) → AreAlike rs ss → decided (Rules rs) text ≡ decided (Rules ss) text
same-decided rs ss text bytes alike = ap (by_rules rs text) (alike-decision 0 rs ss text bytes alike) ∙ same-by_rules rs ss text alike (decision_of ss text)

-- each piece is decided alike
pub same-piece : (rs ss : List Rule) → AreAlike rs ss → (piece : List ℕ) → decided_piece (Rules rs) piece ≡ decided_piece (Rules ss) piece
same-piece rs ss alike piece =
    ap (λ d. cond (length (line_of piece) == 0) spec.Skip d) (same-decided rs ss (text_of piece) (bytes-lossy (line_of piece)) alike)

-- forms that decide each piece alike
module _ (f g : Form) (same : (piece : List ℕ) → decided_piece f piece ≡ decided_piece g piece) where
  same-events : (file section : ℕ) (ps : List (List ℕ)) → piece_events f file section ps ≡ piece_events g file section ps
  same-events file section [] = refl
  same-events file section (p ∷ ps) =
      ap (λ d. line_events file section d ++ piece_events f file (section_after section d) ps) (same p)
      ∙ ap (λ es. line_events file section (decided_piece g p) ++ es) (same-events file (section_after section (decided_piece g p)) ps)

  same-section : (section : ℕ) (ps : List (List ℕ)) → section_at_end f section ps ≡ section_at_end g section ps
  same-section section [] = refl
  same-section section (p ∷ ps) =
      ap (λ d. section_at_end f (section_after section d) ps) (same p) ∙ same-section (section_after section (decided_piece g p)) ps

  same-pieces_refusal : (ignore join cut : Bool) (number section : ℕ) (before : List KeyedEvent) (line : ℕ) (ps : List (List ℕ))
      → pieces_refusal (setting f ignore join) number cut section before line ps
      ≡ pieces_refusal (setting g ignore join) number cut section before line ps
  same-pieces_refusal ignore join cut number section before line [] = refl
  same-pieces_refusal ignore join cut number section before line (p ∷ ps) =
      let s : Setting = setting f ignore join in
      let t : Setting = setting g ignore join in
      let at = at_line number line in
      let d = decided_piece g p in
      ap (λ (d : Decided). cond (cut && length ps == 0) (Some (limit_refusal at p))
      (first_of (cond (nat_lt MAX_LINE_BYTES (length p)) (Some (refused.LineTooLong at)) (line_refusal ignore at before d))
      (pieces_refusal s number cut (section_after section d) (before ++ line_events (key_file s number) section d) (line + 1) ps)))
      (same p)
      ∙ ap (λ (e : Option ReadError). cond (cut && length ps == 0) (Some (limit_refusal at p)) (first_of (piece_refusal t at before p) e))
      (same-pieces_refusal ignore join cut number (section_after section d) (before ++ line_events (key_file s number) section d) (line + 1) ps)

  same-file_events : (ignore join : Bool) (number section : ℕ) (files : List (List ℕ))
      → file_events (setting f ignore join) number section files ≡ file_events (setting g ignore join) number section files
  same-file_events ignore join number section [] = refl
  same-file_events ignore join number section (bytes ∷ files) =
      let s : Setting = setting f ignore join in
      ap₂ (λ es n. es ++ file_events s (number + 1) (next_section s n) files) (same-events (key_file s number) section (pieces bytes)) (same-section section (pieces bytes))
      ∙ ap (λ es. piece_events g (key_file s number) section (pieces bytes) ++ es)
      (same-file_events ignore join (number + 1) (next_section s (section_at_end g section (pieces bytes))) files)

  same-files_refusal : (ignore join : Bool) (number section : ℕ) (before : List KeyedEvent) (room : ℕ) (files : List (List ℕ))
      → files_refusal (setting f ignore join) number section before room files
      ≡ files_refusal (setting g ignore join) number section before room files
  same-files_refusal ignore join number section before room [] = refl
  same-files_refusal ignore join number section before room (bytes ∷ files) =
      let s : Setting = setting f ignore join in
      let t : Setting = setting g ignore join in
      let more = piece_events g (key_file s number) section (pieces bytes) in
      ap₂ (λ es n. first_of (bytes_refusal s number section before room bytes) (files_refusal s (number + 1) (next_section s n) (before ++ es) (room - length bytes) files))
      (same-events (key_file s number) section (pieces bytes)) (same-section section (pieces bytes))
      ∙ ap₂ first_of
      (same-pieces_refusal ignore join (nat_lt room (length bytes)) number section before 1 (pieces (take (room + 1) bytes)))
      (same-files_refusal ignore join (number + 1) (next_section t (section_at_end g section (pieces bytes))) (before ++ more) (room - length bytes) files)

-- rules that are alike find one first refusal
pub alike-refusal : (rs ss : List Rule) (ignore join : Bool) (files : List (List ℕ)) → AreAlike rs ss
    → first_refusal (setting (Rules rs) ignore join) files ≡ first_refusal (setting (Rules ss) ignore join) files
alike-refusal rs ss ignore join files alike = same-files_refusal (Rules rs) (Rules ss) (same-piece rs ss alike) ignore join 0 0 [] MAX_INPUT_BYTES files

-- rules that are alike find the same events
pub alike-events : (rs ss : List Rule) (ignore join : Bool) (files : List (List ℕ)) → AreAlike rs ss
    → events_of (setting (Rules rs) ignore join) files ≡ events_of (setting (Rules ss) ignore join) files
alike-events rs ss ignore join files alike = same-file_events (Rules rs) (Rules ss) (same-piece rs ss alike) ignore join 0 0 files
