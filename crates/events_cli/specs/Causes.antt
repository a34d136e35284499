-- Why a run ends as it does.
use Rattle.std.specs.Prelude.{ℕ, ◌≡◌, List, [], ◌∷◌, None, Ok}
use Rattle.std.specs.Io.KnownBytes.{Appends}
use Rattle.outside.specs.Counts.{Rose}
use Rattle.outside.specs.Inputs.{InputState}
use Rattle.outside.specs.Sinks.{AppendsFront}
use Rattle.line_rules.specs.Patterns.{PatternsState}
use Rattle.command_line.specs.Task.{Task}
use Rattle.synoptic_cli.specs.Causes as run
use Rattle.synoptic_cli.specs.Causes.{World}
use Rattle.synoptic_cli.specs.Endings.{OpensAll, ReadAll, SomeBytes}
use Rattle.synoptic_cli.specs.Stages.{Filled, SoFar, at_start, reads, setting_by}
use Rattle.synoptic_cli.specs.Task.{input_count, input_names, stages_of}
use Rattle.synoptic_cli.specs.declared.status.Status.{Status}
use Rattle.synoptic_cli.specs.declared.status.Status.TheVariants.{Usage, Expressions, Log, Limit, ReadFault, Memory}
use Rattle.events_cli.specs.declared.answer.Answer.{Answer}
use Rattle.events_cli.specs.declared.ending.Ending.{Ending}
use Rattle.events_cli.specs.declared.ending.Ending.TheVariants as endings
use Rattle.events_cli.specs.declared.mode.Mode.{Mode}
use Rattle.events_cli.specs.Answers.{answer, log_answer}
use Rattle.events_cli.specs.Words.{IsAsked, given_words, mode_of, task_for}

-- the bytes of the log's files, which are the last stage
abbrev pub log_bytes : List Filled → List (List ℕ)
log_bytes [] = []
log_bytes (filled ∷ []) = filled.1
log_bytes (filled ∷ next ∷ rest) = log_bytes (next ∷ rest)

-- nothing in these bytes is refused, and this is the answer for the log
pub record IsAnswer (mode : Mode) (task : Task) (a : Answer) (filled : List Filled) : Type 0 where
  pub so_far : SoFar
  pub read : reads at_start filled ≡ Ok so_far
  pub is : a ≡ log_answer mode task (setting_by so_far task.ignore task.join) (log_bytes filled)

-- the task's inputs were opened in turn, each was read to its end, and this is the answer for the log
pub record HasAnswer (mode : Mode) (task : Task) (a : Answer) (old new : InputState) : Type 0 where
  pub ends : SomeBytes old.files (stages_of task) (IsAnswer mode task a)
  pub read : ReadAll (input_count (stages_of task)) old new
  pub turn : OpensAll (input_names (stages_of task)) old new

-- the run ends so, the whole text was written, and no output fault was counted
pub record WritesAll (mode : Mode) (ending : Ending) (old new : World) (task : Task) : Type 0 where
  pub text : List ℕ
  pub has : HasAnswer mode task (answer ending text) old.inputs new.inputs
  pub written : Appends old.out.written new.out.written text
  pub faults : new.out.faults ≡ old.out.faults

-- a prefix of the text was written, and an output fault was counted
pub record WritesPart (mode : Mode) (old new : World) (task : Task) : Type 0 where
  pub whole : Answer
  pub has : HasAnswer mode task whole old.inputs new.inputs
  pub written : AppendsFront old.out whole.text new.out
  pub rose : Rose old.out.faults new.out.faults

-- the refusals: Usage, if the arguments give no fitting task; or a refusal that `synoptic` ends with for the arguments
-- it would be given
abbrev pub IsRefused : Status → List (List ℕ) → World → World → Type 0
IsRefused Usage words old new = (task_for words ≡ None) × (new ≡ old)
IsRefused (Expressions e) words old new = run.HasCause (Expressions e) (given_words words) old new
IsRefused (Log fault) words old new = run.HasCause (Log fault) (given_words words) old new
IsRefused (Limit kind) words old new = run.HasCause (Limit kind) (given_words words) old new
IsRefused (ReadFault source) words old new = run.HasCause (ReadFault source) (given_words words) old new
IsRefused Memory words old new = run.HasCause Memory (given_words words) old new
IsRefused status words old new = ⊥

-- the cause of each ending, in terms of the arguments and the state before and after the run
abbrev pub HasCause : Ending → List (List ℕ) → World → World → Type 0
HasCause endings.Done words old new = IsAsked words (WritesAll (mode_of words) endings.Done old new)
HasCause (endings.Undecided count) words old new =
    IsAsked words (WritesAll (mode_of words) (endings.Undecided count) old new)
HasCause (endings.NoPlain fault) words old new =
    IsAsked words (WritesAll (mode_of words) (endings.NoPlain fault) old new)
HasCause endings.WriteFault words old new = IsAsked words (WritesPart (mode_of words) old new)
HasCause (endings.Refused status) words old new = IsRefused status words old new

-- the count of refused patterns is unchanged, unless a pattern is refused as too large
abbrev pub KeepsCount : Ending → PatternsState → PatternsState → Type 0
KeepsCount (endings.Refused status) before after = run.KeepsCount status before after
KeepsCount ending before after = after.refusals ≡ before.refusals
