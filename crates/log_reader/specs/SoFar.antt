-- A log that is read line by line: its events so far, and what one line more makes of them.
use Rattle.std.specs.Prelude.{ℕ, ◌≡◌, ◌≤◌, ◌⊎◌, ◌==◌, Bool, List, ◌++◌, length, Option, Some, None, if◌then◌else◌}
use Rattle.std.specs.Str.Lossy.{utf8_lossy}
use Rattle.limits.specs.declared.TheConstants.{MAX_EVENTS, MAX_TYPES}
use Rattle.traces.specs.Words.{Event as KeyedEvent, Gathering, gathered_of, event_count_of}
use Rattle.trace_builder.specs.Placed.{placed_in}
use Rattle.line_rules.specs.Views.{rules_in, matched_rules}
use Rattle.log_reader.specs.Reading as spec
use Rattle.log_reader.specs.Reading.{Setting, Decided, decided, event_refusal, line_events, section_after, setting}
use Rattle.log_reader.specs.declared.decider.Decider.{Decider}
use Rattle.log_reader.specs.declared.decider.Decider.TheVariants.{Plain, Rules}
use Rattle.log_reader.specs.declared.refusal.At.{At}
use Rattle.log_reader.specs.declared.refusal.ReadError.{ReadError}
use Rattle.log_reader.specs.declared.refusal.ReadError.TheVariants as refused
use Rattle.log_reader.specs.declared.so_far.LogSoFar.{LogSoFar}
use Rattle.log_reader.specs.declared.reader.LogReader.{LogReader}
use Rattle.log_reader.specs.declared.taken.Taken.{Taken}
use Rattle.log_reader.specs.declared.taken.Taken.TheVariants as taken

-- what a decider decides by
abbrev pub decider_view : Decider → spec.Form
decider_view Plain = spec.Plain
decider_view (Rules kept) = spec.Rules (rules_in kept.rules.now)

-- its matchers search for its rules
abbrev pub HasMatchers : Decider → Type 0
HasMatchers Plain = Unit {0}
HasMatchers (Rules kept) = matched_rules kept.matchers ≡ rules_in kept.rules.now

-- within the limits on types and events
pub record IsWithin (gathering : Gathering) : Type 0 where
  pub types : length gathering.types ≤ MAX_TYPES
  pub events : event_count_of gathering.traces ≤ MAX_EVENTS

-- the gathering is that of these events
abbrev pub IsGatheredOf : Gathering → List KeyedEvent → Type 0
IsGatheredOf gathering events = gathering ≡ gathered_of events

-- the refusal of a line after what was gathered
abbrev pub refusal_in : Bool → At → Gathering → Decided → Option ReadError
refusal_in ignore at gathering (spec.Event typ trace time) =
    event_refusal at gathering.types (event_count_of gathering.traces) typ trace
refusal_in ignore at gathering spec.Skip = None
refusal_in ignore at gathering spec.Separator = None
refusal_in ignore at gathering spec.Undecided = if ignore then None else Some (refused.Undecided at)
refusal_in ignore at gathering spec.BadTime = Some (refused.BadTime at)

-- the error is this refusal, or out of memory
abbrev pub IsRefusal : Option ReadError → ReadError → Type 0
IsRefusal refusal e = (e ≡ refused.Memory) ⊎ (refusal ≡ Some e)

-- if the old gathering is that of some events, the new one is that of these and of the line's
abbrev pub AddsLine : ℕ → ℕ → Decided → Gathering → Gathering → Type 0
AddsLine file section d old new =
    (events : List KeyedEvent) → IsGatheredOf old events
    → IsGatheredOf new (events ++ line_events file section d)

-- a line with this decision is not refused, and its event and its section are taken in
pub record TakesLine (at : At) (d : Decided) (old new : LogSoFar) : Type 0 where
  pub refusal : refusal_in old.ignore at old.builder d ≡ None
  pub log : AddsLine (if old.join then 0 else at.file) old.section d old.builder new.builder
  pub section : new.section ≡ section_after old.section d
  pub ignore : new.ignore ≡ old.ignore
  pub join : new.join ≡ old.join
  pub within : IsWithin new.builder

-- what a line with this decision is taken for
abbrev pub taken_for : At → Decided → LogSoFar → Taken
taken_for at (spec.Event typ trace time) log =
    taken.Event
    (placed_in log.builder (record { file = if log.join then 0 else at.file; section = log.section; text = trace }) typ)
    time
taken_for at spec.Undecided log = taken.Undecided
taken_for at spec.Skip log = taken.Nothing
taken_for at spec.Separator log = taken.Nothing
taken_for at spec.BadTime log = taken.Nothing

-- the setting of a reader
abbrev pub setting_of : LogReader → Setting
setting_of reader = setting (decider_view reader.decider) reader.log.ignore reader.log.join

-- a reader between two lines
pub record IsReady (reader : LogReader) : Type 0 where
  pub matchers : HasMatchers reader.decider
  pub within : IsWithin reader.log.builder

-- what a line is, by its bytes; one without bytes is skipped
abbrev pub decided_line : spec.Form → List ℕ → Decided
decided_line form line = if length line == 0 then spec.Skip else decided form (utf8_lossy line)

-- a line with this decision is taken in, and the reader reads on as before
pub record ReadsText (at : At) (d : Decided) (old new : LogReader) : Type 0 where
  pub takes : TakesLine at d old.log new.log
  pub form : decider_view new.decider ≡ decider_view old.decider
  pub matchers : HasMatchers new.decider
