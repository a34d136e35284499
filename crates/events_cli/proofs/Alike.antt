-- Forms that decide lines alike say the same of a log.
use Rattle.std.proofs.Common.{◌≡◌, ℕ, ◌+◌, Bool, List, map, filter, take, refl, ap, ap₂, ◌∙◌}
use Rattle.std.specs.Prelude.{if◌then◌else◌}
use Rattle.std.specs.List.{count_by, enumerate_from, flat_map, sum_by}
use Rattle.lines.specs.Lines.{line_of, pieces}
use Rattle.traces.specs.Words.{Event as KeyedEvent, log_of}
use Rattle.log_reader.specs.LogLines.{Line, is_separator, lines_of}
use Rattle.log_reader.specs.Reading as spec
use Rattle.log_reader.specs.Reading.{Decided, Form, Setting, at_line, decided_piece, events_of, key_file, line_events, setting}
use Rattle.log_reader.proofs.AlikeLogs.{same-piece}
use Rattle.events.specs.Located.{events_located, located_in}
use Rattle.events.specs.Undecided.{is_undecided, undecided_lines}
use Rattle.events.specs.declared.located.Located.{Located}
use Rattle.command_line.specs.Task.{Task}
use Rattle.synoptic_cli.specs.Halts.{AreAlikeForms}
use Rattle.synoptic_cli.proofs.LogStage.{AreReadAlike}
use Rattle.events_cli.specs.Answers.{events_answer, log_answer, undecided_answer}
use Rattle.events_cli.specs.declared.mode.Mode.{Mode}
use Rattle.events_cli.specs.declared.mode.Mode.TheVariants.{ByTraces, InOrder, Plain, Undecided}

-- forms that are alike decide each piece alike
pub alike-piece : (f g : Form) → AreAlikeForms f g → (piece : List ℕ) → decided_piece f piece ≡ decided_piece g piece
alike-piece spec.Plain spec.Plain alike piece = refl
alike-piece (spec.Rules rs) (spec.Rules ss) alike piece = same-piece rs ss alike piece
alike-piece spec.Plain (spec.Rules ss) alike piece = absurd alike
alike-piece (spec.Rules rs) spec.Plain alike piece = absurd alike

-- the lines of files, by what decides their pieces
abbrev lines_with : Bool → List (List ℕ) → (List ℕ → Decided) → List Line
lines_with join files d =
    flat_map
    (λ (f : ℕ × List ℕ). map
    (λ (p : ℕ × List ℕ). let l : Line = record {
      at = at_line f.0 (p.0 + 1);
      section =
          (if join then sum_by (λ (bytes : List ℕ). count_by (λ (q : List ℕ). is_separator (d q)) (pieces bytes)) (take f.0 files) else 0)
          + count_by (λ (q : List ℕ). is_separator (d q)) (take p.0 (pieces f.1));
      piece = p.1;
    } in l)
    (enumerate_from 0 (pieces f.1)))
    (enumerate_from 0 files)

module _ (f g : Form) (ignore join : Bool) (same : (piece : List ℕ) → decided_piece f piece ≡ decided_piece g piece) where
  both : ◌≡◌ {A = List ℕ → Decided} (decided_piece f) (decided_piece g)
  both = λ i piece. same piece i

  -- the lines are the same
  same-lines : (files : List (List ℕ)) → lines_of (setting f ignore join) files ≡ lines_of (setting g ignore join) files
  same-lines files = ap (lines_with join files) both

  -- the events of lines are the same
  same-located : (lines : List Line) → events_located (setting f ignore join) lines ≡ events_located (setting g ignore join) lines
  same-located lines =
      ap
      (λ (d : List ℕ → Decided). map (located_in (flat_map (λ (l : Line). line_events (key_file (setting f ignore join) l.at.file) l.section (d l.piece)) lines))
      (flat_map (λ (l : Line). map (λ (event : KeyedEvent). (l.at, event)) (line_events (key_file (setting f ignore join) l.at.file) l.section (d l.piece))) lines))
      both

  -- the lines that nothing decides are the same
  same-undecided : (lines : List Line) → undecided_lines (setting f ignore join) lines ≡ undecided_lines (setting g ignore join) lines
  same-undecided lines =
      ap (λ (d : List ℕ → Decided). map (λ (l : Line). (l.at, line_of l.piece)) (filter (λ (l : Line). is_undecided (d l.piece)) lines)) both

  -- the events of files are the same
  same-events : (files : List (List ℕ)) → events_located (setting f ignore join) (lines_of (setting f ignore join) files) ≡ events_located (setting g ignore join) (lines_of (setting g ignore join) files)
  same-events files = ap (events_located (setting f ignore join)) (same-lines files) ∙ same-located (lines_of (setting g ignore join) files)

  -- what is written is the same
  pub same-answer : (mode : Mode) (task : Task) (files : List (List ℕ)) → AreReadAlike (setting f ignore join) (setting g ignore join)
      → log_answer mode task (setting f ignore join) files ≡ log_answer mode task (setting g ignore join) files
  same-answer Undecided task files alike =
      ap (λ (lines : List Line). undecided_answer task (undecided_lines (setting f ignore join) lines)) (same-lines files)
      ∙ ap (undecided_answer task) (same-undecided (lines_of (setting g ignore join) files))
  same-answer ByTraces task files alike =
      ap₂ (λ (events : List KeyedEvent) (located : List Located). events_answer ByTraces task (log_of events) located) (alike files).1 (same-events files)
  same-answer InOrder task files alike =
      ap₂ (λ (events : List KeyedEvent) (located : List Located). events_answer InOrder task (log_of events) located) (alike files).1 (same-events files)
  same-answer Plain task files alike =
      ap₂ (λ (events : List KeyedEvent) (located : List Located). events_answer Plain task (log_of events) located) (alike files).1 (same-events files)
