-- One input of a log.
use Rattle.std.proofs.Common.{◌≡◌, ◌⊎◌, ℕ, ◌+◌, ◌-◌, ◌≤◌, nat_lt, false, List, [], ◌++◌, length, take, Option, Some, None, refl, sym, ap, ap₂, ◌∙◌, subst, arith, inl, inr, ⊎_elim, true≢false, append-nil, take_all, IsTrue}
use Rattle.std.proofs.lemmas.Bool.Decides.{nat_tests}
use Rattle.std.specs.Io.KnownBytes.{Consumes, IsAtEnd}
use Rattle.limits.specs.declared.TheConstants.{MAX_INPUT_BYTES}
use Rattle.outside.specs.Counts.{Rose}
use Rattle.outside.specs.Inputs.{Files, InputState, Lacks, TellsFile}
use Rattle.outside.specs.Reading.{IfTold, LosesFront, OpensNamed}
use Rattle.lines.specs.Lines.{pieces}
use Rattle.traces.specs.Words.{Event as KeyedEvent}
use Rattle.log_reader.specs.Reading.{Setting, bytes_refusal, next_section, pieces_refusal}
use Rattle.log_reader.specs.LogLines.{events_at}
use Rattle.log_reader.specs.Taking.{EndsFile, Taker, piece_lines}
use Rattle.log_reader.specs.LineReader.{SeenLines}
use Rattle.log_reader.specs.Files.{HasContent, HasFileCause, HasLinesCause, IsNotOpened, IsOpened, OpensFile, OpensOne, FailsWithin, ReadsFile, ReadsLines, RefusesLines, known_rest}
use Rattle.log_reader.specs.declared.refusal.ReadError.{ReadError}
use Rattle.log_reader.specs.declared.refusal.ReadError.TheVariants as refused

-- where files are told, what was read and what is left are the bytes of the named one
told-content : (files : Option Files) (name : List ℕ) (opened rest : Option (List ℕ)) (bytes : List ℕ) → TellsFile files name opened → Consumes opened rest bytes
    → HasContent files name (bytes ++ known_rest rest)
told-content None name opened rest bytes tells read = tt
told-content (Some files) name None rest bytes tells read = absurd (true≢false (sym tells.0))
told-content (Some files) name (Some content) None bytes tells read = absurd read
told-content (Some files) name (Some content) (Some rest) bytes tells read = sym tells.1 ∙ ap (λ (x : List ℕ). Some x) read

-- a front of it is gone
told-front : (files : Option Files) (name : List ℕ) (opened rest : Option (List ℕ)) (room : ℕ) → TellsFile files name opened → LosesFront opened rest room
    → IfTold files name (λ content. LosesFront (Some content) rest room)
told-front None name opened rest room tells loses = tt
told-front (Some files) name None rest room tells loses = absurd (true≢false (sym tells.0))
told-front (Some files) name (Some content) rest room tells loses = (content, sym tells.1, loses)

-- an error is want of memory or not
is-memory : (e : ReadError) → (e ≡ refused.Memory) ⊎ (e ≡ refused.Memory → ⊥)
is-memory refused.Memory = inl refl
is-memory _ = inr (λ is. cc)

-- what is known of an input at its end
known-end : (rest : Option (List ℕ)) → IsAtEnd rest → known_rest rest ≡ []
known-end None at_end = refl
known-end (Some rest) at_end = at_end

-- a file that is not longer than the room for it has no byte past it
whole-refusal : (s : Setting) (number section : ℕ) (events : List KeyedEvent) (room : ℕ) (bytes : List ℕ) → length bytes ≤ room
    → bytes_refusal s number section events room bytes ≡ pieces_refusal s number false section events 1 (pieces bytes)
whole-refusal s number section events room bytes within =
    let uncut : nat_lt room (length bytes) ≡ false = grind (arith, nat_tests) in
    let whole : take (room + 1) bytes ≡ bytes = take_all (room + 1) bytes (omega (arith, within)) in
    ap₂ (λ cut bs. pieces_refusal s number cut section events 1 (pieces bs)) uncut whole

-- an input that was opened, and whose lines were taken in to its end
pub file-read : (before opened after : InputState) (name : List ℕ) (number : ℕ) (first last : SeenLines) (old mid new : Taker)
    → IsOpened before opened name → after.opens ≡ opened.opens → ReadsLines opened after number first last old mid
    → EndsFile mid new
    → ReadsFile before after name number (MAX_INPUT_BYTES - first.taken) (MAX_INPUT_BYTES - last.taken) old new
file-read before opened after name number first last old mid new is stay reads ends =
    let s = old.setting in
    let bytes = reads.bytes in
    let room = MAX_INPUT_BYTES - first.taken in
    let fits : length bytes ≤ room = omega (arith, reads.taken, reads.within) in
    let whole : bytes ++ known_rest after.rest ≡ bytes = ap (λ (r : List ℕ). bytes ++ r) (known-end after.rest reads.at_end) ∙ append-nil bytes in
    record {
      opens = stay ∙ is.opens;
      faults = reads.faults ∙ is.faults;
      at_end = reads.at_end;
      content = bytes;
      told = subst (HasContent before.files name) whole (told-content before.files name opened.rest after.rest bytes is.tells reads.read);
      room_left = omega (arith, reads.taken, reads.within);
      ready = ends.ready reads.pieces.ready;
      setting = ends.setting ∙ reads.pieces.setting;
      few = omega (arith, reads.few, ends.few);
      section = ends.section ∙ ap₂ next_section reads.pieces.setting reads.pieces.section;
      has = λ lines so_far.
          let read = reads.pieces.has lines so_far in
          record {
            refusal = whole-refusal s number old.section (events_at s lines) room bytes fits ∙ read.refusal;
            taken = ends.has (lines ++ piece_lines s.form number old.section 1 (pieces bytes)) read.taken;
          };
    }

-- an input that was opened, and of which a front was read
pub still-named : (before opened after : InputState) (name : List ℕ) (room : ℕ) → IsOpened before opened name
    → after.opens ≡ opened.opens → after.mark ≡ opened.mark → LosesFront opened.rest after.rest room → OpensNamed before after name room
still-named before opened after name room is opens mark left =
    record { opens = opens ∙ is.opens; mark = mark ∙ is.mark; left = told-front before.files name opened.rest after.rest room is.tells left }

-- and no other was opened
pub still-one : (before opened after : InputState) (name : List ℕ) (room : ℕ) → IsOpened before opened name
    → after.opens ≡ opened.opens → after.mark ≡ opened.mark → LosesFront opened.rest after.rest room → after.followed ≡ opened.followed → OpensOne name room before after
still-one before opened after name room is opens mark left turn = (still-named before opened after name room is opens mark left, turn ∙ is.turn)

-- an input that was not opened could not be read
pub not-opened : (before after : InputState) (name : List ℕ) (number room : ℕ) (old : Taker) (e : ReadError) → IsNotOpened before after name number e → HasFileCause before after name number room old e
not-opened before after name number room old e none = inr (inl (record {
  answer = none.answer;
  cause = ⊎_elim
      (λ (fails : Rose before.faults after.faults × IsTrue (before.may_fail name)). inl (fails.0, fails.1, inl none.none))
      (λ (lacks : Lacks before.files name × (after.faults ≡ before.faults)). inr (lacks.0, none.none, lacks.1))
      none.cause;
}))

-- and no other was opened
pub opened-none : (before after : InputState) (name : List ℕ) (number room : ℕ) (e : ReadError) → IsNotOpened before after name number e → OpensFile name room before after
opened-none before after name number room e none = inr (none.none, none.turn)

-- a file whose lines are refused, or could not be read
pub file-refused : (before opened after : InputState) (name : List ℕ) (number : ℕ) (first : SeenLines) (old : Taker) (e : ReadError)
    → IsOpened before opened name → OpensNamed before after name (MAX_INPUT_BYTES - first.taken) → after.opens ≡ opened.opens → HasLinesCause opened after number first old e
    → HasFileCause before after name number (MAX_INPUT_BYTES - first.taken) old e
file-refused before opened after name number first old e is named stay cause = ⊎_elim
    (λ (fails : FailsWithin opened after number first e). inr (inl (record {
      answer = fails.answer;
      cause = inl (
        subst (λ n. Rose n after.faults) is.faults fails.rose,
        subst IsTrue is.mark fails.mark,
        inr named,
      );
    })))
    (λ (refuses : RefusesLines opened after number first old e). ⊎_elim
    (λ memory. inl (memory, named))
    (λ other. inr (inr (record {
      opens = stay ∙ is.opens;
      faults = refuses.faults ∙ is.faults;
      content = refuses.bytes ++ known_rest after.rest;
      told = told-content before.files name opened.rest after.rest refuses.bytes is.tells refuses.read;
      named = named;
      refusal = λ lines so_far. ⊎_elim (λ memory. absurd (other memory)) (λ this. this) (refuses.refusal lines so_far);
    })))
    (is-memory e))
    cause
