-- Why a log is refused.
use Rattle.std.proofs.Common.{◌≡◌, ◌⊎◌, ℕ, zero, suc, ◌+◌, ◌-◌, ◌<◌, ◌&&◌, ◌==◌, Bool, true, false, cond, not, nat_lt, nat_le, List, [], ◌∷◌, ◌++◌, length, take, drop, Option, Some, None, option_map, refl, sym, ap, ◌∙◌, subst, arith, inl, inr, ⊎_elim, append-nil, length-append}
use Rattle.std.proofs.lemmas.Bool.{cond-true}
use Rattle.std.proofs.lemmas.Option.{none-some}
use Rattle.std.specs.List.{slice_get, list_any}
use Rattle.std.specs.Prelude.{IsSomeAnd, IsTrue}
use Rattle.std.specs.Str.{bytes_eq}
use Rattle.outside.specs.Counts.{Rose}
use Rattle.outside.specs.Inputs.{Files, InputState, Lacks}
use Rattle.outside.specs.Reading.{OpensNamed, OpensNone}
use Rattle.limits.specs.declared.TheConstants.{MAX_EVENTS, MAX_INPUT_BYTES, MAX_LINE_BYTES, MAX_TRACE_BYTES, MAX_TYPE_BYTES, MAX_TYPES}
use Rattle.lines.specs.Lines.{pieces}
use Rattle.traces.specs.Words.{Event as KeyedEvent, types_of}
use Rattle.log_reader.specs.Reading as spec
use Rattle.log_reader.specs.Reading.{Setting, Decided, decided_piece, line_events, piece_events, section_after, section_at_end, key_file, next_section, at_line, first_of, event_refusal, line_refusal, piece_refusal, bytes_refusal, pieces_refusal, files_refusal, first_refusal}
use Rattle.log_reader.specs.Inputs.{with_content, told_contents, lacking, first_lacking, file_past, SomeContents, refused_input, IsRefusedAt, RefusesLog, IsLacking, StopsAnywhere, StopsBefore, StopsWithin, Fails, IsMissing, HasReadCause}
use Rattle.log_reader.specs.Files.{HasContent, RefusesFile, IsUnread, HasFileCause}
use Rattle.log_reader.specs.declared.refusal.At.{At}
use Rattle.log_reader.specs.declared.refusal.ReadError.{ReadError}
use Rattle.log_reader.specs.declared.refusal.ReadError.TheVariants as refused
use Rattle.log_reader.specs.LogLines.{events_at}
use Rattle.log_reader.specs.Taking.{Taker}
use Rattle.log_reader.proofs.InputByInput.{HasContents, IsUpTo, next-name, opens-next, opened-so, room-before, stops-within}

-- a refusal names a line of this file, or is the limit on all input, where that cuts the file
abbrev IsOfFile : ℕ → Bool → Option ReadError → Type 0
IsOfFile number cut None = Unit {0}
IsOfFile number cut (Some (refused.LineTooLong at)) = at.file ≡ number
IsOfFile number cut (Some (refused.Undecided at)) = at.file ≡ number
IsOfFile number cut (Some (refused.BadTime at)) = at.file ≡ number
IsOfFile number cut (Some (refused.TypeTooLong at)) = at.file ≡ number
IsOfFile number cut (Some (refused.TraceTooLong at)) = at.file ≡ number
IsOfFile number cut (Some (refused.TypeLimit at)) = at.file ≡ number
IsOfFile number cut (Some (refused.EventLimit at)) = at.file ≡ number
IsOfFile number cut (Some refused.InputLimit) = cut ≡ true
IsOfFile number cut (Some (refused.ReadFault n)) = ⊥
IsOfFile number cut (Some refused.Memory) = ⊥

of-cond : (number : ℕ) (cut b : Bool) (x y : Option ReadError) → IsOfFile number cut x → IsOfFile number cut y → IsOfFile number cut (cond b x y)
of-cond number cut true x y p q = p
of-cond number cut false x y p q = q

of-first : (number : ℕ) (cut : Bool) (x y : Option ReadError) → IsOfFile number cut x → IsOfFile number cut y → IsOfFile number cut (first_of x y)
of-first number cut None y p q = q
of-first number cut (Some e) y p q = p

of-last : (cut last long : Bool) (at : At) (next : Option ReadError) → IsOfFile at.file cut next
    → IsOfFile at.file cut (cond (cut && last) (Some (cond long (refused.LineTooLong at) refused.InputLimit)) next)
of-last false last long at next p = p
of-last true false long at next p = p
of-last true true true at next p = refl
of-last true true false at next p = refl

of-event : (at : At) (cut : Bool) (types : List (List ℕ)) (count : ℕ) (typ trace : List ℕ) → IsOfFile at.file cut (event_refusal at types count typ trace)
of-event at cut types count typ trace =
    let last : Option ReadError = cond (nat_le MAX_EVENTS count) (Some (refused.EventLimit at)) None in
    let third : Option ReadError = cond (not (list_any (bytes_eq typ) types) && nat_le MAX_TYPES (length types)) (Some (refused.TypeLimit at)) last in
    let second : Option ReadError = cond (nat_lt MAX_TRACE_BYTES (length trace)) (Some (refused.TraceTooLong at)) third in
    of-cond at.file cut (nat_lt MAX_TYPE_BYTES (length typ)) (Some (refused.TypeTooLong at)) second refl
    (of-cond at.file cut (nat_lt MAX_TRACE_BYTES (length trace)) (Some (refused.TraceTooLong at)) third refl
    (of-cond at.file cut (not (list_any (bytes_eq typ) types) && nat_le MAX_TYPES (length types)) (Some (refused.TypeLimit at)) last refl
    (of-cond at.file cut (nat_le MAX_EVENTS count) (Some (refused.EventLimit at)) None refl tt)))

of-decided : (ignore : Bool) (at : At) (cut : Bool) (before : List KeyedEvent) (d : Decided) → IsOfFile at.file cut (line_refusal ignore at before d)
of-decided ignore at cut before (spec.Event typ trace time) = of-event at cut (types_of before) (length before) typ trace
of-decided ignore at cut before spec.Skip = tt
of-decided ignore at cut before spec.Separator = tt
of-decided ignore at cut before spec.Undecided = of-cond at.file cut ignore None (Some (refused.Undecided at)) tt refl
of-decided ignore at cut before spec.BadTime = refl

-- each refusal of a file's lines is one of that file
of-pieces : (s : Setting) (number : ℕ) (cut : Bool) (section : ℕ) (before : List KeyedEvent) (line : ℕ) (ps : List (List ℕ)) → IsOfFile number cut (pieces_refusal s number cut section before line ps)
of-pieces s number cut section before line [] = tt
of-pieces s number cut section before line (p ∷ ps) =
    let at = at_line number line in
    let d = decided_piece s.form p in
    let here : Option ReadError = piece_refusal s at before p in
    let next : Option ReadError = pieces_refusal s number cut (section_after section d) (before ++ line_events (key_file s number) section d) (line + 1) ps in
    of-last cut (length ps == 0) (nat_lt MAX_LINE_BYTES (length p)) at (first_of here next)
    (of-first number cut here next
    (of-cond number cut (nat_lt MAX_LINE_BYTES (length p)) (Some (refused.LineTooLong at)) (line_refusal s.ignore at before d) refl (of-decided s.ignore at cut before d))
    (of-pieces s number cut (section_after section d) (before ++ line_events (key_file s number) section d) (line + 1) ps))

-- so reading stops at that file
stops-at : (number : ℕ) (cut : Bool) (e : ReadError) (contents : List (List ℕ)) → IsOfFile number cut (Some e) → (cut ≡ true → file_past MAX_INPUT_BYTES contents ≡ Some number)
    → refused_input e contents ≡ Some number
stops-at number cut refused.InputLimit contents is past = past is
stops-at number cut (refused.ReadFault n) contents is past = absurd is
stops-at number cut refused.Memory contents is past = absurd is
stops-at number cut _ contents is past = ap (λ (n : ℕ). Some n) is

-- no fault is a refusal of lines
never-fault : (s : Setting) (told : Option Files) (names : List (List ℕ)) (n number : ℕ) → SomeContents told names (IsRefusedAt s (refused.ReadFault n) number) → ⊥
never-fault s None names n number some = none-some number some.2.1
never-fault s (Some files) names n number some = none-some number some.1

-- nor is want of memory
never-memory : (s : Setting) (told : Option Files) (names : List (List ℕ)) (number : ℕ) → SomeContents told names (IsRefusedAt s refused.Memory number) → ⊥
never-memory s None names number some = none-some number some.2.1
never-memory s (Some files) names number some = none-some number some.1

IsUnreadable : Setting → List (List ℕ) → InputState → InputState → ReadError → Type 0
IsUnreadable s names old new e = (number : ℕ) × (e ≡ refused.ReadFault number) × (Fails names old new number ⊎ IsMissing s names old new number)

-- the three causes of an answer
Causes : Setting → List (List ℕ) → InputState → InputState → ReadError → Type 0
unfolding IsUnreadable
Causes s names old new e = ((e ≡ refused.Memory) × StopsAnywhere names old new) ⊎ (IsUnreadable s names old new e ⊎ RefusesLog s names old new e)

-- of the refusals of lines only the last is a cause
of-lines : (s : Setting) (names : List (List ℕ)) (old new : InputState) (e : ReadError) → (e ≡ refused.Memory → ⊥) → ((n : ℕ) → e ≡ refused.ReadFault n → ⊥) → Causes s names old new e → RefusesLog s names old new e
unfolding IsUnreadable Causes
of-lines s names old new e memory fault causes =
    ⊎_elim (λ is. absurd (memory is.0)) (λ rest. ⊎_elim (λ unread. absurd (fault unread.0 unread.1)) (λ refuses. refuses) rest) causes

cause-of : (s : Setting) (names : List (List ℕ)) (old new : InputState) (e : ReadError) → Causes s names old new e → HasReadCause s names old new e
unfolding IsUnreadable Causes
cause-of s names old new (refused.ReadFault n) causes = ⊎_elim
    (λ (is : (refused.ReadFault n ≡ refused.Memory) × StopsAnywhere names old new). let never : refused.ReadFault n ≡ refused.Memory = is.0 in cc (never))
    (λ rest. ⊎_elim
    (λ unread.
    let same : unread.0 ≡ n = cc (unread.1) in
    subst (λ k. Fails names old new k ⊎ IsMissing s names old new k) same unread.2)
    (λ (refuses : RefusesLog s names old new (refused.ReadFault n)). absurd (never-fault s old.files names n refuses.number refuses.refusal))
    rest)
    causes
cause-of s names old new (refused.LineTooLong at) causes = of-lines s names old new (refused.LineTooLong at) (λ is. cc) (λ n is. cc) causes
cause-of s names old new (refused.Undecided at) causes = of-lines s names old new (refused.Undecided at) (λ is. cc) (λ n is. cc) causes
cause-of s names old new (refused.BadTime at) causes = of-lines s names old new (refused.BadTime at) (λ is. cc) (λ n is. cc) causes
cause-of s names old new (refused.TypeTooLong at) causes = of-lines s names old new (refused.TypeTooLong at) (λ is. cc) (λ n is. cc) causes
cause-of s names old new (refused.TraceTooLong at) causes = of-lines s names old new (refused.TraceTooLong at) (λ is. cc) (λ n is. cc) causes
cause-of s names old new (refused.TypeLimit at) causes = of-lines s names old new (refused.TypeLimit at) (λ is. cc) (λ n is. cc) causes
cause-of s names old new (refused.EventLimit at) causes = of-lines s names old new (refused.EventLimit at) (λ is. cc) (λ n is. cc) causes
cause-of s names old new refused.InputLimit causes = of-lines s names old new refused.InputLimit (λ is. cc) (λ n is. cc) causes
cause-of s names old new refused.Memory causes = ⊎_elim
    (λ (is : (refused.Memory ≡ refused.Memory) × StopsAnywhere names old new). is.1)
    (λ rest. ⊎_elim
    (λ unread. let never : refused.Memory ≡ refused.ReadFault unread.0 = unread.1 in cc (never))
    (λ (refuses : RefusesLog s names old new refused.Memory). absurd (never-memory s old.files names refuses.number refuses.refusal))
    rest)
    causes

lacking-at : (s : Setting) (told : Option Files) (names : List (List ℕ)) (k : ℕ) (contents : List (List ℕ)) (name : List ℕ) → slice_get names k ≡ Some name
    → HasContents told names k contents → Lacks told name → first_refusal s contents ≡ None → IsLacking s told names k
lacking-at s None names k contents name at has lacks none = absurd lacks
lacking-at s (Some files) names k contents name at has lacks none =
    let later = drop (k + 1) names in (
      has.1 ∙ (ap (λ ns. option_map (λ n. n + k) (first_lacking files ns)) (next-name names k name at) ∙ (ap (λ o. option_map (λ n. n + k) (lacking o (first_lacking files later))) lacks ∙ ap (λ (n : ℕ). Some n) (omega arith))),
      ap (first_refusal s) (has.0 ∙ (ap (λ ns. contents ++ told_contents files ns) (next-name names k name at) ∙ (ap (λ o. contents ++ with_content o (told_contents files later)) lacks ∙ append-nil contents))) ∙ none,
    )

-- where the reading of this input stopped, from the first input on
stopped : (s : Setting) (names : List (List ℕ)) (k : ℕ) (old before after : InputState) (reader : Taker) (room : ℕ) (name : List ℕ)
    → IsUpTo s names k old before reader room → slice_get names k ≡ Some name → OpensNone before after ⊎ OpensNamed before after name room
    → StopsBefore k old after ⊎ IsSomeAnd (slice_get names k) (StopsWithin names k old after)
stopped s names k old before after reader room name so_far at = ⊎_elim
    (λ (none : OpensNone before after). inl (record { opens = none.opens ∙ opened-so old.opens before.opens k so_far.none so_far.some; closed = none.closed }))
    (λ (named : OpensNamed before after name room). inr (stops-within s names k old before after reader room name so_far at named))

-- an input that could not be read is a cause of the log's answer
unreadable : (s : Setting) (names : List (List ℕ)) (k : ℕ) (old before after : InputState) (reader : Taker) (room : ℕ) (name : List ℕ) (e : ReadError)
    → IsUpTo s names k old before reader room → slice_get names k ≡ Some name → IsUnread before after name k room e → IsUnreadable s names old after e
unfolding IsUnreadable
unreadable s names k old before after reader room name e so_far at unread = (
  k,
  unread.answer,
  ⊎_elim
      (λ (fails : Rose before.faults after.faults × IsTrue (before.may_fail name) × (OpensNone before after ⊎ OpensNamed before after name room)). inl (record {
        fault = (
          subst (λ n. Rose n after.faults) so_far.faults fails.0,
          subst (λ o. IsSomeAnd o (λ name. IsTrue (old.may_fail name))) (sym at) (subst (λ (f : List ℕ → Bool). IsTrue (f name)) so_far.stays.may_fail fails.1),
        );
        room = room;
        before = room-before s names k old before reader room so_far;
        stops = stopped s names k old before after reader room name so_far at fails.2;
      }))
      (λ (lacks : Lacks before.files name × OpensNone before after × (after.faults ≡ before.faults)). inr (
        lacking-at s old.files names k so_far.contents name at so_far.told (subst (λ f. Lacks f name) so_far.stays.files lacks.0)
            (ap (first_refusal s) (sym (append-nil so_far.contents)) ∙ so_far.refusal []),
        record { opens = lacks.1.opens ∙ opened-so old.opens before.opens k so_far.none so_far.some; closed = lacks.1.closed },
        lacks.2 ∙ so_far.faults,
      ))
      unread.cause,
)

below-at : (names : List (List ℕ)) (k : ℕ) (name : List ℕ) → slice_get names k ≡ Some name → k < length names
below-at [] k name at = absurd (none-some name at)
below-at (x ∷ names) zero name at = omega arith
below-at (x ∷ names) (suc k) name at = omega (arith, below-at names k name at)

some-refused : (told : Option Files) (names : List (List ℕ)) (k : ℕ) (contents : List (List ℕ)) (name content : List ℕ) (P : List (List ℕ) → Type 0) → slice_get names k ≡ Some name → length contents ≡ k
    → HasContents told names k contents → HasContent told name content → ((rest : List (List ℕ)) → P (contents ++ content ∷ rest)) → SomeContents told names P
some-refused None names k contents name content P at many has told each =
    (contents ++ content ∷ [], omega (arith, below-at names k name at, length-append contents (content ∷ [])), each [])
some-refused (Some files) names k contents name content P at many has told each =
    let later = drop (k + 1) names in
    subst P (sym (has.0 ∙ (ap (λ ns. contents ++ told_contents files ns) (next-name names k name at) ∙ ap (λ o. contents ++ with_content o (told_contents files later)) told))) (each (told_contents files later))

-- the first refusal of an input is that of the log
refused-log : (s : Setting) (names : List (List ℕ)) (k : ℕ) (old before after : InputState) (reader : Taker) (room : ℕ) (name : List ℕ) (e : ReadError)
    → IsUpTo s names k old before reader room → slice_get names k ≡ Some name → RefusesFile before after name k room reader e → RefusesLog s names old after e
refused-log s names k old before after reader room name e so_far at refuses =
    let section = reader.section in
    let content = refuses.content in
    let events = events_at s so_far.lines in
    let here : bytes_refusal s k section events room content ≡ Some e = subst (λ t. bytes_refusal t k section (events_at t so_far.lines) room content ≡ Some e) so_far.setting (refuses.refusal so_far.lines so_far.has) in
    let next : List (List ℕ) → Option ReadError = λ rest.
    files_refusal s (k + 1) (next_section s (section_at_end s.form section (pieces content))) (events ++ piece_events s.form (key_file s k) section (pieces content)) (room - length content) rest in
    let none_more : 0 + k ≡ k = omega arith in
    let number : (rest : List (List ℕ)) → refused_input e (so_far.contents ++ content ∷ rest) ≡ Some k = λ rest.
    stops-at k (nat_lt room (length content)) e (so_far.contents ++ content ∷ rest)
    (subst (IsOfFile k (nat_lt room (length content))) here (of-pieces s k (nat_lt room (length content)) section events 1 (pieces (take (room + 1) content))))
    (λ cut. so_far.past (content ∷ rest)
    ∙ (ap (option_map (λ n. n + k)) (cond-true (nat_lt room (length content)) (Some 0) (option_map (λ n. n + 1) (file_past (room - length content) rest)) cut)
    ∙ ap (λ (n : ℕ). Some n) none_more)) in
    record {
      number = k;
      few = below-at names k name at;
      refusal = some-refused old.files names k so_far.contents name content (IsRefusedAt s e k) at so_far.many so_far.told (subst (λ f. HasContent f name content) so_far.stays.files refuses.told)
          (λ rest. (so_far.refusal (content ∷ rest) ∙ ap (λ o. first_of o (next rest)) here, number rest));
      opened = record { opens = opens-next old.opens before.opens after.opens k so_far.none so_far.some refuses.opens; faults = refuses.faults ∙ so_far.faults };
      stops = stops-within s names k old before after reader room name so_far at refuses.named;
    }

-- the cause of an input's answer is one of the log's
pub up-to-cause : (s : Setting) (names : List (List ℕ)) (k : ℕ) (old before after : InputState) (reader : Taker) (room : ℕ) (name : List ℕ) (e : ReadError)
    → IsUpTo s names k old before reader room → slice_get names k ≡ Some name → HasFileCause before after name k room reader e
    → HasReadCause s names old after e
unfolding Causes
up-to-cause s names k old before after reader room name e so_far at cause =
    cause-of s names old after e (⊎_elim
    (λ (memory : (e ≡ refused.Memory) × OpensNamed before after name room). inl (memory.0, inr (k, stops-within s names k old before after reader room name so_far at memory.1)))
    (λ rest. inr (⊎_elim
    (λ unread. inl (unreadable s names k old before after reader room name e so_far at unread))
    (λ refuses. inr (refused-log s names k old before after reader room name e so_far at refuses))
    rest))
    cause)
