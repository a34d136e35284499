-- Which lines events stand on, and which lines are undecided.
use Rattle.std.proofs.Common.{◌≡◌, ◌≢◌, ℕ, Bool, true, false, List, [], ◌∷◌, ◌++◌, map, filter, cond, refl, sym, ap, ◌∙◌}
use Rattle.std.proofs.lemmas.List.{map-append}
use Rattle.std.proofs.lemmas.List.Elements.{filter-append}
use Rattle.lines.specs.Lines.{line_of}
use Rattle.traces.specs.Words.{Event as KeyedEvent}
use Rattle.log_reader.specs.LogLines.{Line, events_at, own_events}
use Rattle.log_reader.specs.Reading as spec
use Rattle.log_reader.specs.Reading.{Decided, Setting, decided_piece, key_file, line_events}
use Rattle.log_reader.specs.declared.refusal.At.{At}
use Rattle.events.specs.Laws.{EventsStandOnTheirLines, OthersAreNotListed, UndecidedAreListed, is_event}
use Rattle.events.specs.Located.{events_with_lines, located_in}
use Rattle.events.specs.Undecided.{is_undecided, undecided_lines}
use Rattle.events.specs.declared.located.Located.{Located}

-- ---- the lines of events

abbrev place : At × KeyedEvent → At
place p = p.0

-- the place of an event is that of the line with which it came
located-at : (events : List KeyedEvent) (ps : List (At × KeyedEvent)) → map (λ (event : Located). event.at) (map (located_in events) ps) ≡ map place ps
located-at events [] = refl
located-at events (p ∷ ps) = ap (λ (ats : List At). p.0 ∷ ats) (located-at events ps)

-- the places of the events of a line that is decided so, and of others after it
of-line : (at : At) (file section : ℕ) (d : Decided) (rest : List At)
    → map place (map (λ (event : KeyedEvent). (at, event)) (line_events file section d)) ++ rest ≡ cond (is_event d) (at ∷ rest) rest
of-line at file section (spec.Event typ trace time) rest = refl
of-line at file section spec.Skip rest = refl
of-line at file section spec.Separator rest = refl
of-line at file section spec.Undecided rest = refl
of-line at file section spec.BadTime rest = refl

at-cond : (b : Bool) (l : Line) (lines : List Line) → map (λ (l : Line). l.at) (cond b (l ∷ lines) lines) ≡ cond b (l.at ∷ map (λ (l : Line). l.at) lines) (map (λ (l : Line). l.at) lines)
at-cond true l lines = refl
at-cond false l lines = refl

places : (s : Setting) (lines : List Line) → map place (events_with_lines s lines) ≡ map (λ (l : Line). l.at) (filter (λ (l : Line). is_event (decided_piece s.form l.piece)) lines)
places s [] = refl
places s (l ∷ lines) =
    let own : List (At × KeyedEvent) = map (λ (event : KeyedEvent). (l.at, event)) (own_events s l) in
    let rest : List Line = filter (λ (l : Line). is_event (decided_piece s.form l.piece)) lines in
    map-append place own (events_with_lines s lines)
    ∙ (ap (λ (ats : List At). map place own ++ ats) (places s lines)
    ∙ (of-line l.at (key_file s l.at.file) l.section (decided_piece s.form l.piece) (map (λ (l : Line). l.at) rest)
    ∙ sym (at-cond (is_event (decided_piece s.form l.piece)) l rest)))

-- the places of the events are those of their lines
pub events-stand : EventsStandOnTheirLines
events-stand s lines = located-at (events_at s lines) (events_with_lines s lines) ∙ places s lines

-- ---- undecided lines

abbrev placed_line : Line → At × List ℕ
placed_line l = (l.at, line_of l.piece)

abbrev passes : Setting → Line → Bool
passes s l = is_undecided (decided_piece s.form l.piece)

-- the undecided lines among these, from a line on whose test gives this
abbrev from-line : Setting → Line → List Line → Bool → List Line
from-line s l rest test = cond test (l ∷ filter (passes s) rest) (filter (passes s) rest)

-- an undecided line is listed
pub undecided-are-listed : UndecidedAreListed
undecided-are-listed s before rest l is =
    ap (map placed_line) (filter-append (passes s) before (l ∷ rest))
    ∙ (map-append placed_line (filter (passes s) before) (filter (passes s) (l ∷ rest))
    ∙ ap (λ (d : Decided). undecided_lines s before ++ map placed_line (from-line s l rest (is_undecided d))) is)

not-undecided : (d : Decided) → d ≢ spec.Undecided → is_undecided d ≡ false
not-undecided (spec.Event typ trace time) other = refl
not-undecided spec.Skip other = refl
not-undecided spec.Separator other = refl
not-undecided spec.Undecided other = absurd (other refl)
not-undecided spec.BadTime other = refl

-- another line is not
pub others-are-not-listed : OthersAreNotListed
others-are-not-listed s before rest l other =
    ap (map placed_line)
    (filter-append (passes s) before (l ∷ rest)
    ∙ (ap (λ (b : Bool). filter (passes s) before ++ from-line s l rest b) (not-undecided (decided_piece s.form l.piece) other)
    ∙ sym (filter-append (passes s) before rest)))
