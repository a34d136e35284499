-- A log that was read, and what is written of it.
use Rattle.std.proofs.Common.{◌≡◌, ℕ, true, false, List, length, None, refl, ap, ap₂, ◌∙◌, subst}
use Rattle.outside.specs.Inputs.{InputState}
use Rattle.traces.specs.Words.{Log, log_of}
use Rattle.log_reader.specs.Inputs.{inputs_of}
use Rattle.log_reader.specs.LogLines.{lines_of}
use Rattle.log_reader.specs.Reading.{Form, Setting, events_of, first_refusal}
use Rattle.log_reader.specs.declared.refusal.At.{At}
use Rattle.command_line.specs.Task.{Task}
use Rattle.events.specs.Located.{events_located}
use Rattle.events.specs.Reading.{ReadsAll, ReadsEvents, ReadsUndecided}
use Rattle.events.specs.Undecided.{undecided_lines}
use Rattle.events.specs.declared.located.Located.{Located}
use Rattle.synoptic_cli.specs.Halts.{setting_of}
use Rattle.synoptic_cli.proofs.Bytes.{contents-map}
use Rattle.events_cli.specs.Answers.{events_answer, log_answer, undecided_answer}
use Rattle.events_cli.specs.Steps.{ReadsAnswer}
use Rattle.events_cli.specs.Words.{lists_undecided}
use Rattle.events_cli.specs.declared.answer.Answer.{Answer}
use Rattle.events_cli.specs.declared.mode.Mode.{Mode}
use Rattle.events_cli.specs.declared.mode.Mode.TheVariants.{ByTraces, InOrder, Plain, Undecided}

-- what holds with one setting and names holds with the same in another way of writing
pub along : (X : Setting → List (List ℕ) → Type 0) (s t : Setting) (names others : List (List ℕ)) → s ≡ t → names ≡ others → X s names → X t others
along X s t names others setting-is names-are x = subst (λ (n : List (List ℕ)). X t n) names-are (subst (λ (u : Setting). X u names) setting-is x)

-- what follows of the bytes that were read holds of them too
pub reads-map : (s : Setting) (names : List (List ℕ)) (old new : InputState) (P Q : List (List ℕ) → Type 0) → ((contents : List (List ℕ)) → P contents → Q contents) → ReadsAll s names old new P → ReadsAll s names old new Q
reads-map s names old new P Q step read = record {
  words =
      contents-map old.files names (λ contents. (length contents ≡ length names) × (first_refusal s contents ≡ None) × P contents) (λ contents. (length contents ≡ length names) × (first_refusal s contents ≡ None) × Q contents)
      (λ contents p. (p.0, p.1, step contents p.2)) read.words;
  opened = read.opened;
  at_end = read.at_end;
  turn = read.turn;
}

-- what is written of a log whose events are listed
of-events : (mode : Mode) (task : Task) (s : Setting) (files : List (List ℕ)) → lists_undecided mode ≡ false
    → events_answer mode task (log_of (events_of s files)) (events_located s (lines_of s files)) ≡ log_answer mode task s files
of-events ByTraces task s files is = refl
of-events InOrder task s files is = refl
of-events Plain task s files is = refl
of-events Undecided task s files is = cc

-- the events that were read give what is written
pub events-shown : (mode : Mode) (task : Task) (form : Form) (old new : InputState) (log : Log) (located : List Located) (a : Answer) → lists_undecided mode ≡ false
    → ReadsEvents (setting_of task form) (inputs_of task.files) old new log located → a ≡ events_answer mode task log located → ReadsAnswer mode task form old new a
events-shown mode task form old new log located a events read is =
    let s = setting_of task form in
    reads-map s (inputs_of task.files) old new
    (λ contents. (log ≡ log_of (events_of s contents)) × (located ≡ events_located s (lines_of s contents)))
    (λ contents. a ≡ log_answer mode task s contents)
    (λ contents p. is ∙ (ap₂ (events_answer mode task) p.0 p.1 ∙ of-events mode task s contents events)) read

of-undecided : (mode : Mode) (task : Task) (s : Setting) (files : List (List ℕ)) → lists_undecided mode ≡ true → undecided_answer task (undecided_lines s (lines_of s files)) ≡ log_answer mode task s files
of-undecided ByTraces task s files is = cc
of-undecided InOrder task s files is = cc
of-undecided Plain task s files is = cc
of-undecided Undecided task s files is = refl

-- the lines that nothing decides give what is written
pub undecided-shown : (mode : Mode) (task : Task) (form : Form) (old new : InputState) (lines : List (At × List ℕ)) (a : Answer) → lists_undecided mode ≡ true
    → ReadsUndecided (setting_of task form) (inputs_of task.files) old new lines → a ≡ undecided_answer task lines → ReadsAnswer mode task form old new a
undecided-shown mode task form old new lines a lists read is =
    let s = setting_of task form in
    reads-map s (inputs_of task.files) old new
    (λ contents. lines ≡ undecided_lines s (lines_of s contents))
    (λ contents. a ≡ log_answer mode task s contents)
    (λ contents p. is ∙ (ap (undecided_answer task) p ∙ of-undecided mode task s contents lists)) read
