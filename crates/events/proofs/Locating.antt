-- A reader that keeps the line of each event takes in the lines of a log.
use Rattle.std.proofs.Common.{◌≡◌, ℕ, List, [], ◌∷◌, ◌++◌, map, refl, sym, ap, ◌∙◌, append-nil, Option, Some, None}
use Rattle.std.proofs.lemmas.Grind.{flat_map-append}
use Rattle.std.proofs.lemmas.List.{map-append}
use Rattle.outside.specs.Inputs.{Files, InputState}
use Rattle.trace_builder.specs.Placed.{placed_in}
use Rattle.traces.specs.Words.{Event as KeyedEvent, Gathering, Log, gathered_of, in_order, log_of}
use Rattle.log_reader.specs.Files.{ReadsInputs}
use Rattle.log_reader.specs.Inputs.{SomeContents, told_contents}
use Rattle.log_reader.specs.LogLines.{Line, events_at, lines_of, own_events}
use Rattle.log_reader.specs.Reading as spec
use Rattle.log_reader.specs.Reading.{Decided, Setting, decided_piece, key_file, line_events}
use Rattle.log_reader.specs.SoFar.{IsGatheredOf, ReadsText, decided_line, setting_of, taken_for}
use Rattle.log_reader.specs.Taking.{EndsFile, RefusesLineOf, TakesLineOf, TakesPiece, line_by, taker}
use Rattle.log_reader.specs.declared.reader.LogReader.{LogReader}
use Rattle.log_reader.specs.declared.refusal.At.{At}
use Rattle.log_reader.specs.declared.refusal.ReadError.{ReadError}
use Rattle.log_reader.specs.declared.taken.Taken.{Taken}
use Rattle.log_reader.specs.declared.taken.Taken.TheVariants as taken
use Rattle.log_reader.proofs.LinesOfLog.{events-own, events-with}
use Rattle.log_reader.proofs.TakesLines.{takes-line}
use Rattle.events.specs.Located.{events_located, events_with_lines, located_in, located_of}
use Rattle.events.specs.Reading.{ReadsAll, ReadsEvents}
use Rattle.events.specs.Takers.{locating}
use Rattle.events.specs.declared.event_reader.EventReader.{EventReader}
use Rattle.events.specs.declared.located.Located.{Located}
use Rattle.events.proofs.Numbering.{numbered-before, numbered-last}

abbrev beside : At → List KeyedEvent → List (At × KeyedEvent)
beside at events = map (λ event. (at, event)) events

beside-none : (at : At) (events : List KeyedEvent) → map (λ (p : At × KeyedEvent). p.1) (beside at events) ≡ events
beside-none at [] = refl
beside-none at (e ∷ events) = ap (λ (es : List KeyedEvent). e ∷ es) (beside-none at events)

-- without their lines the events are those of the lines
pub without-lines : (s : Setting) (lines : List Line) → map (λ (p : At × KeyedEvent). p.1) (events_with_lines s lines) ≡ events_at s lines
without-lines s [] = refl
without-lines s (l ∷ lines) =
    map-append (λ (p : At × KeyedEvent). p.1) (beside l.at (own_events s l)) (events_with_lines s lines)
    ∙ (ap (λ (es : List KeyedEvent). es ++ map (λ (p : At × KeyedEvent). p.1) (events_with_lines s lines)) (beside-none l.at (own_events s l))
    ∙ ap (λ (es : List KeyedEvent). own_events s l ++ es) (without-lines s lines))

with-one : (s : Setting) (lines : List Line) (l : Line) → events_with_lines s (lines ++ l ∷ []) ≡ events_with_lines s lines ++ beside l.at (own_events s l)
with-one s lines l =
    flat_map-append (λ (l : Line). beside l.at (own_events s l)) lines (l ∷ [])
    ∙ ap (λ (es : List (At × KeyedEvent)). events_with_lines s lines ++ es) (append-nil (beside l.at (own_events s l)))

none-located : (events : List KeyedEvent) (ps : List (At × KeyedEvent)) → map (located_in (events ++ [])) (ps ++ []) ≡ map (located_in events) ps ++ []
none-located events ps =
    ap (λ (es : List KeyedEvent). map (located_in es) (ps ++ [])) (append-nil events)
    ∙ (ap (map (located_in events)) (append-nil ps) ∙ sym (append-nil (map (located_in events) ps)))

-- an event at this place that is put after what was gathered
put-in : At → KeyedEvent → Gathering → List Located
put-in at e gathering = located_of at (taken.Event (placed_in gathering e.key e.typ) e.time)

-- the events so far, and what a line that is decided so was taken for
more-located : (reader : LogReader) (events : List KeyedEvent) (ps : List (At × KeyedEvent)) (at : At) (d : Decided) → map (λ (p : At × KeyedEvent). p.1) ps ≡ events
    → reader.log.builder ≡ gathered_of events
    → map (located_in (events ++ line_events (key_file (setting_of reader) at.file) reader.log.section d)) (ps ++ beside at (line_events (key_file (setting_of reader) at.file) reader.log.section d))
    ≡ map (located_in events) ps ++ located_of at (taken_for at d reader.log)
unfolding put-in
more-located reader events ps at (spec.Event typ trace time) are gathered =
    let e : KeyedEvent = record { key = record { file = key_file (setting_of reader) at.file; section = reader.log.section; text = trace }; typ = typ; time = time } in
    map-append (located_in (events ++ e ∷ [])) ps ((at, e) ∷ [])
    ∙ (ap (λ (xs : List Located). xs ++ located_in (events ++ e ∷ []) (at, e) ∷ []) (numbered-before events e ps are)
    ∙ ap (λ (xs : List Located). map (located_in events) ps ++ xs)
    (ap (λ (x : Located). x ∷ []) (sym (numbered-last events e at)) ∙ ap (put-in at e) (sym gathered)))
more-located reader events ps at spec.Skip are gathered = none-located events ps
more-located reader events ps at spec.Separator are gathered = none-located events ps
more-located reader events ps at spec.Undecided are gathered = none-located events ps
more-located reader events ps at spec.BadTime are gathered = none-located events ps

-- the events of lines and of one more
located-with : (reader : LogReader) (lines : List Line) (at : At) (piece : List ℕ) → IsGatheredOf reader.log.builder (events_at (setting_of reader) lines)
    → events_located (setting_of reader) (lines ++ line_by at reader.log.section piece ∷ [])
    ≡ events_located (setting_of reader) lines ++ located_of at (taken_for at (decided_piece (setting_of reader).form piece) reader.log)
located-with reader lines at piece gathered =
    let s = setting_of reader in
    let l : Line = line_by at reader.log.section piece in
    ap (λ (es : List KeyedEvent). map (located_in es) (events_with_lines s (lines ++ l ∷ []))) (events-with s lines l)
    ∙ (ap (map (located_in (events_at s lines ++ own_events s l))) (with-one s lines l)
    ∙ more-located reader (events_at s lines) (events_with_lines s lines) at (decided_piece s.form piece) (without-lines s lines) gathered)

-- a line that was read is taken in, with its event
pub locates-line : (at : At) (bytes : List ℕ) (old new : EventReader) (was : Taken) → ReadsText at (decided_line (setting_of old.reader).form bytes) old.reader new.reader
    → was ≡ taken_for at (decided_line (setting_of old.reader).form bytes) old.reader.log → new.located.items ≡ old.located.items ++ located_of at was
    → TakesLineOf at bytes (locating old) (locating new)
locates-line at bytes old new was reads is put = λ piece of_piece.
    let s = setting_of old.reader in
    let inner : TakesPiece at piece (taker old.reader) (taker new.reader) = takes-line at bytes old.reader new.reader reads piece of_piece in
    let d : was ≡ taken_for at (decided_piece s.form piece) old.reader.log = is ∙ ap (λ bs. taken_for at (decided_line s.form bs) old.reader.log) (sym of_piece) in
    record {
      ready = inner.ready;
      setting = inner.setting;
      section = inner.section;
      refusal = λ lines has. inner.refusal lines has.0;
      has = λ lines has. (
        inner.has lines has.0,
        put
            ∙ (ap (λ (xs : List Located). xs ++ located_of at was) has.1
            ∙ (ap (λ (t : Taken). events_located s lines ++ located_of at t) d
            ∙ (sym (located-with old.reader lines at piece has.0) ∙ ap (λ t. events_located t (lines ++ line_by at old.reader.log.section piece ∷ [])) (sym inner.setting)))),
      );
    }

-- a line that is refused is refused by what was taken in before it
pub refuses-event : (at : At) (bytes : List ℕ) (old : EventReader) (e : ReadError) → RefusesLineOf at bytes (taker old.reader) e → RefusesLineOf at bytes (locating old) e
refuses-event at bytes old e refuses = λ piece is lines has. refuses piece is lines has.0

-- a file ends
pub ends-file-of-events : (old new : EventReader) → EndsFile (taker old.reader) (taker new.reader) → new.located.items ≡ old.located.items → EndsFile (locating old) (locating new)
ends-file-of-events old new ends same = record {
  ready = ends.ready;
  setting = ends.setting;
  section = ends.section;
  few = ends.few;
  has = λ lines has. (ends.has lines has.0, same ∙ (has.1 ∙ ap (λ t. events_located t lines) (sym ends.setting)));
}

-- what holds of the bytes of inputs, and says more of them
some-more : (told : Option Files) (names : List (List ℕ)) (P Q : List (List ℕ) → Type 0) → ((contents : List (List ℕ)) → P contents → Q contents) → SomeContents told names P → SomeContents told names Q
some-more None names P Q more some = (some.0, some.1, more some.0 some.2)
some-more (Some files) names P Q more some = more (told_contents files names) some

-- all inputs were read, and what was taken in of their lines says this of their bytes
pub reads-all : (s : Setting) (names : List (List ℕ)) (old now : InputState) (has : List Line → Type 0) (P : List (List ℕ) → Type 0)
    → ReadsInputs s names old now has → ((contents : List (List ℕ)) → has (lines_of s contents) → P contents) → ReadsAll s names old now P
reads-all s names old now has P reads more = record {
  words = some-more old.files names _ _ (λ contents holds. (holds.0, holds.1, more contents holds.2)) reads.words;
  opened = reads.opened;
  at_end = reads.at_end;
  turn = reads.turn;
}

-- the events of the inputs are what was kept of their lines
pub events-read : (s : Setting) (names : List (List ℕ)) (old now : InputState) (gathering : Gathering) (log : Log) (kept located : List Located)
    → ReadsInputs s names old now (λ lines. IsGatheredOf gathering (events_at s lines) × (kept ≡ events_located s lines)) → log ≡ in_order gathering → located ≡ kept
    → ((events : List KeyedEvent) → in_order (gathered_of events) ≡ log_of events) → ReadsEvents s names old now log located
events-read s names old now gathering log kept located reads is same ordered =
    reads-all s names old now _ _ reads
    (λ contents has. (is ∙ (ap in_order has.0 ∙ (ordered (events_at s (lines_of s contents)) ∙ ap log_of (sym (events-own s contents)))), same ∙ has.1))
