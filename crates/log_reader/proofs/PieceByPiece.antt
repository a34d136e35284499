-- Pieces of a file, one by one.
use Rattle.std.proofs.Common.{◌≡◌, ℕ, ◌+◌, ◌<◌, ◌≤◌, ◌&&◌, ◌==◌, Bool, false, List, [], ◌∷◌, ◌++◌, length, nat_lt, Option, Some, None, refl, sym, ap, ap₂, ◌∙◌, subst, arith, inl, ⊎_elim, append_assoc, IsUtf8, encode_utf8_all}
use Rattle.std.proofs.lemmas.Bool.{cases_Bool, cond-true, cond-false, eqb-true, false_from_ne_true}
use Rattle.std.proofs.lemmas.Bool.Decides.{nat_tests}
use Rattle.std.proofs.lemmas.Option.{none-some}
use Rattle.std.proofs.lemmas.Str.{utf8_lossy-IsUtf8}
use Rattle.std.specs.Str.Lossy.{utf8_lossy}
use Rattle.bstr.specs.Utf8.{lossy_chars}
use Rattle.bstr.proofs.lemmas.LossyLemmas.{lossy_chars-utf8_lossy}
use Rattle.limits.specs.declared.TheConstants.{MAX_LINE_BYTES}
use Rattle.lines.specs.Lines.{pieces, on_first}
use Rattle.traces.specs.Words.{Event as KeyedEvent, Gathering, event_count_of}
use Rattle.traces.proofs.Grown.{count-gathered_of}
use Rattle.log_reader.specs.Reading as spec
use Rattle.log_reader.specs.Reading.{Form, Setting, Decided, decided, decided_piece, section_after, section_at_end, first_of, event_refusal, line_refusal, piece_refusal, limit_refusal, at_line, pieces_refusal}
use Rattle.log_reader.specs.declared.refusal.At.{At}
use Rattle.log_reader.specs.declared.refusal.ReadError.{ReadError}
use Rattle.log_reader.specs.SoFar.{decided_line, IsGatheredOf, IsRefusal, refusal_in}
use Rattle.log_reader.specs.LogLines.{Line, events_at, own_events}
use Rattle.log_reader.specs.Taking.{IsPiecesRefusal, Taker, TakesPiece, line_by, piece_lines}
use Rattle.log_reader.proofs.LinesOfLog.{events-with}

short : (n : ℕ) → n ≤ MAX_LINE_BYTES → nat_lt MAX_LINE_BYTES n ≡ false
short n h = grind (arith, nat_tests)

-- a line that is UTF-8 is its own text
pub read-as_it_stands : (line text : List ℕ) → text ≡ line → IsUtf8 line → text ≡ utf8_lossy line
read-as_it_stands line text reads utf8 = reads ∙ sym (utf8_lossy-IsUtf8 line utf8)

-- a line that is decoded is its text
pub read-as_decoded : (line text : List ℕ) → text ≡ encode_utf8_all (lossy_chars line) → text ≡ utf8_lossy line
read-as_decoded line text reads = reads ∙ lossy_chars-utf8_lossy line

-- how many bytes a line has that has some
pub not-none : (n : ℕ) → 0 < n → (n == 0) ≡ false
not-none n some = false_from_ne_true (n == 0) (λ none. absurd (omega (arith, some, eqb-true n 0 none)))

-- a line with bytes is what its text is
pub line-decided : (form : Form) (line text : List ℕ) → (length line == 0) ≡ false → text ≡ utf8_lossy line → decided form text ≡ decided_line form line
line-decided form line text some is = ap (decided form) is ∙ sym (cond-false _ _ _ some)

-- the refusal of a piece that is short enough is that of its line
pub piece-fits : (s : Setting) (at : At) (events : List KeyedEvent) (piece : List ℕ) → length piece ≤ MAX_LINE_BYTES
    → piece_refusal s at events piece ≡ line_refusal s.ignore at events (decided_piece s.form piece)
piece-fits s at events piece few = cond-false _ _ _ (short (length piece) few)

-- the piece is not refused, and its line is taken in
pub record ReadsPiece (at : At) (piece : List ℕ) (old new : Taker) : Type 0 where
  pub refusal : (lines : List Line) → old.has lines → piece_refusal old.setting at (events_at old.setting lines) piece ≡ None
  pub takes : TakesPiece at piece old new

-- a piece that is short enough is read where its line is taken in
pub reads-piece : (at : At) (piece : List ℕ) (old new : Taker) → length piece ≤ MAX_LINE_BYTES → TakesPiece at piece old new → ReadsPiece at piece old new
reads-piece at piece old new few takes = record {
  refusal = λ lines has. piece-fits old.setting at (events_at old.setting lines) piece few ∙ takes.refusal lines has;
  takes = takes;
}

-- the refusal of a line after some events, by what was gathered of them
pub same-refusal : (ignore : Bool) (at : At) (log : Gathering) (events : List KeyedEvent) → IsGatheredOf log events → (d : Decided) → line_refusal ignore at events d ≡ refusal_in ignore at log d
same-refusal ignore at log events so_far (spec.Event typ trace time) =
    ap₂ (λ types count. event_refusal at types count typ trace)
    (sym (ap (λ (g : Gathering). g.types) so_far))
    (sym (count-gathered_of events) ∙ sym (ap (λ (g : Gathering). event_count_of g.traces) so_far))
same-refusal ignore at log events so_far _ = refl

section-few : (section : ℕ) (d : Decided) → section_after section d ≤ section + 1
section-few section spec.Separator = omega arith
section-few section _ = omega arith

some-first : (b : ℕ) (ps : List (List ℕ)) → 0 < length (on_first b ps)
some-first b [] = omega arith
some-first b (p ∷ ps) = omega arith

-- where a byte is, a piece is
pub some-pieces : (bytes : List ℕ) → 0 < length bytes → 0 < length (pieces bytes)
some-pieces [] some = absurd (omega arith)
some-pieces (b ∷ bytes) some = ⊎_elim
    (λ feed. subst (λ ps. 0 < length ps) (sym (cond-true (b == 10) ([] ∷ pieces bytes) (on_first b (pieces bytes)) feed)) (omega arith))
    (λ other. subst (λ ps. 0 < length ps) (sym (cond-false (b == 10) ([] ∷ pieces bytes) (on_first b (pieces bytes)) other)) (some-first b (pieces bytes)))
    (cases_Bool (b == 10))

-- the pieces up to these were taken in, after these lines
pub record IsPart (s : Setting) (number : ℕ) (cut : Bool) (first : ℕ) (all : List (List ℕ)) (lines : List Line) (section : ℕ) (has : List Line → Type 0) (line : ℕ) (rest : List (List ℕ)) : Type 0 where
  pub more : List Line
  pub is : has (lines ++ more)
  pub refusal : pieces_refusal s number cut first (events_at s lines) 1 all ≡ pieces_refusal s number cut section (events_at s (lines ++ more)) line rest
  pub parts : piece_lines s.form number first 1 all ≡ more ++ piece_lines s.form number section line rest

-- the pieces up to these were taken in
pub record IsPartWay (number : ℕ) (cut : Bool) (all : List (List ℕ)) (old now : Taker) (line : ℕ) (rest : List (List ℕ)) : Type 0 where
  pub ready : now.ready
  pub setting : now.setting ≡ old.setting
  pub section : section_at_end old.setting.form old.section all ≡ section_at_end old.setting.form now.section rest
  pub has : (lines : List Line) → old.has lines → IsPart old.setting number cut old.section all lines now.section now.has line rest

-- one piece more
part-more : (s : Setting) (number : ℕ) (cut : Bool) (first : ℕ) (all : List (List ℕ)) (lines : List Line) (section : ℕ) (old new : List Line → Type 0) (line : ℕ) (piece : List ℕ) (rest : List (List ℕ))
    → IsPart s number cut first all lines section old line (piece ∷ rest)
    → (cut && length rest == 0) ≡ false → ((ls : List Line) → old ls → piece_refusal s (at_line number line) (events_at s ls) piece ≡ None)
    → ((ls : List Line) → old ls → new (ls ++ line_by (at_line number line) section piece ∷ []))
    → IsPart s number cut first all lines (section_after section (decided_piece s.form piece)) new (line + 1) rest
part-more s number cut first all lines section old new line piece rest part uncut none adds =
    let d = decided_piece s.form piece in
    let at = at_line number line in
    let l = line_by at section piece in
    let ls = lines ++ part.more in
    let later = section_after section d in
    let nothing : piece_refusal s at (events_at s ls) piece ≡ None = none ls part.is in
    let events : events_at s ls ++ own_events s l ≡ events_at s (lines ++ (part.more ++ l ∷ [])) = sym (events-with s ls l) ∙ ap (events_at s) (append_assoc lines part.more (l ∷ [])) in
    let next : Option ReadError = pieces_refusal s number cut later (events_at s ls ++ own_events s l) (line + 1) rest in
    record {
      more = part.more ++ l ∷ [];
      is = subst new (append_assoc lines part.more (l ∷ [])) (adds ls part.is);
      refusal = part.refusal ∙ (cond-false (cut && length rest == 0) (Some (limit_refusal at piece)) (first_of (piece_refusal s at (events_at s ls) piece) next) uncut
          ∙ (ap (λ o. first_of o next) nothing ∙ ap (λ es. pieces_refusal s number cut later es (line + 1) rest) events));
      parts = part.parts ∙ sym (append_assoc part.more (l ∷ []) (piece_lines s.form number later (line + 1) rest));
    }

-- one piece more
pub way-more : (number : ℕ) (cut : Bool) (all : List (List ℕ)) (old now new : Taker) (line : ℕ) (piece : List ℕ) (rest after : List (List ℕ))
    → IsPartWay number cut all old now line rest → rest ≡ piece ∷ after → (cut && length after == 0) ≡ false → ReadsPiece (at_line number line) piece now new
    → IsPartWay number cut all old new (line + 1) after
way-more number cut all old now new line piece rest after way is uncut reads =
    let s = old.setting in
    let at = at_line number line in
    let takes = reads.takes in
    let section : new.section ≡ section_after now.section (decided_piece s.form piece) = subst (λ (t : Setting). new.section ≡ section_after now.section (decided_piece t.form piece)) way.setting takes.section in
    let none : (ls : List Line) → now.has ls → piece_refusal s at (events_at s ls) piece ≡ None = subst (λ t. (ls : List Line) → now.has ls → piece_refusal t at (events_at t ls) piece ≡ None) way.setting reads.refusal in
    record {
      ready = takes.ready;
      setting = takes.setting ∙ way.setting;
      section = way.section ∙ (ap (section_at_end s.form now.section) is ∙ ap (λ n. section_at_end s.form n after) (sym section));
      has = λ lines so_far.
          let part : IsPart s number cut old.section all lines now.section now.has line (piece ∷ after) = subst (IsPart s number cut old.section all lines now.section now.has line) is (way.has lines so_far) in
          subst (λ n. IsPart s number cut old.section all lines n new.has (line + 1) after) (sym section)
          (part-more s number cut old.section all lines now.section now.has new.has line piece after part uncut none takes.has);
    }

first-of : (o next : Option ReadError) (e : ReadError) → IsRefusal o e → IsRefusal (first_of o next) e
first-of None next e is = ⊎_elim (λ memory. inl memory) (λ none. absurd (none-some e none)) is
first-of (Some x) next e is = is

-- a piece that is refused
pub way-refused : (number : ℕ) (cut : Bool) (all : List (List ℕ)) (old now : Taker) (line : ℕ) (piece : List ℕ) (rest after : List (List ℕ)) (e : ReadError)
    → IsPartWay number cut all old now line rest → rest ≡ piece ∷ after → (cut && length after == 0) ≡ false
    → ((ls : List Line) → now.has ls → IsRefusal (piece_refusal now.setting (at_line number line) (events_at now.setting ls) piece) e) → IsPiecesRefusal number cut all old e
way-refused number cut all old now line piece rest after e way is uncut refusal = λ lines so_far.
    let s = old.setting in
    let part = way.has lines so_far in
    let ls = lines ++ part.more in
    let at = at_line number line in
    let l = line_by at now.section piece in
    let next : Option ReadError = pieces_refusal s number cut (section_after now.section (decided_piece s.form piece)) (events_at s ls ++ own_events s l) (line + 1) after in
    let here : IsRefusal (piece_refusal s at (events_at s ls) piece) e = subst (λ t. IsRefusal (piece_refusal t at (events_at t ls) piece) e) way.setting (refusal ls part.is) in
    subst (λ o. IsRefusal o e)
    (sym (part.refusal ∙ (ap (pieces_refusal s number cut now.section (events_at s ls) line) is ∙ cond-false (cut && length after == 0) (Some (limit_refusal at piece)) (first_of (piece_refusal s at (events_at s ls) piece) next) uncut)))
    (first-of (piece_refusal s at (events_at s ls) piece) next e here)

-- a piece takes a byte or more, and ends a section at most
pub few-more : (now new : Taker) (at : At) (piece : List ℕ) → ReadsPiece at piece now new → (after before limit : ℕ) → after < before → now.section + before ≤ limit → new.section + after ≤ limit
few-more now new at piece reads after before limit less within =
    omega (arith, reads.takes.section, section-few now.section (decided_piece now.setting.form piece))
