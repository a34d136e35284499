-- Why a run ends.
use Rattle.std.proofs.Common.{◌≡◌, ℕ, ◌+◌, ◌≤◌, true, List, length, refl, sym, ap, ◌∙◌, subst, inl, arith, Option, Some, None}
use Rattle.std.proofs.lemmas.Bool.{cond-true}
use Rattle.outside.specs.Inputs.{Files, InputState}
use Rattle.outside.specs.Turns.{OpensFirst}
use Rattle.line_rules.specs.Patterns.{PatternsState}
use Rattle.log_reader.specs.Inputs.{SomeContents, inputs_of, told_contents}
use Rattle.log_reader.specs.LogLines.{lines_of}
use Rattle.log_reader.specs.Reading.{Form, Setting, events_of}
use Rattle.log_reader.specs.declared.refusal.ReadError.{ReadError}
use Rattle.log_reader.specs.declared.refusal.ReadError.TheVariants as refused
use Rattle.traces.specs.Words.{Log, log_of}
use Rattle.events.specs.Located.{events_located}
use Rattle.command_line.specs.Task.{Task, task_of}
use Rattle.command_line.specs.declared.given.ParseError.{ParseError}
use Rattle.command_line.specs.declared.given.ParseError.TheVariants as parse_error
use Rattle.events.specs.declared.located.Located.{Located}
use Rattle.synoptic_cli.specs.Causes as run
use Rattle.synoptic_cli.specs.Causes.{World, world}
use Rattle.synoptic_cli.specs.Halts.{Ends, IsOfRules, setting_of, status_without_task}
use Rattle.synoptic_cli.specs.Stages.{status_of}
use Rattle.synoptic_cli.specs.Task.{first_stages, input_count, input_names, log_stages, stages_of}
use Rattle.synoptic_cli.specs.declared.status.Status.{Status}
use Rattle.synoptic_cli.specs.declared.status.Status.TheVariants.{Expressions, Log as LogStatus, Limit, ReadFault, Memory}
use Rattle.synoptic_cli.proofs.Rules.{memory-ends}
use Rattle.synoptic_cli.proofs.Through.{read-faults, read-most, stages-first}
use Rattle.synoptic_cli.proofs.LogStage.{ReadAlike, log-first}
use Rattle.synoptic_cli.proofs.Ends.{log-ends}
use Rattle.synoptic_cli.proofs.Expected.{no-task-ends}
use Rattle.events_cli.specs.declared.answer.Answer.{Answer}
use Rattle.events_cli.specs.declared.answer.Halt.{Halt}
use Rattle.events_cli.specs.declared.answer.Halt.TheVariants as halts
use Rattle.events_cli.specs.declared.ending.Ending.{Ending}
use Rattle.events_cli.specs.declared.ending.Ending.TheVariants as endings
use Rattle.events_cli.specs.declared.ending.PlainFault.{PlainFault}
use Rattle.events_cli.specs.declared.mode.Mode.{Mode}
use Rattle.events_cli.specs.declared.mode.Mode.TheVariants.{ByTraces, InOrder, Plain, Undecided}
use Rattle.events_cli.specs.Answers.{events_answer, log_answer, plain_answer}
use Rattle.events_cli.specs.Causes.{HasCause, KeepsCount, WritesAll}
use Rattle.events_cli.specs.Messages.{task_message_of}
use Rattle.events_cli.specs.Plain.{first_fault}
use Rattle.events_cli.specs.Steps.{HasHaltCause, IsGiven, IsOfReading, ReadsAnswer, halt_status}
use Rattle.events_cli.specs.Words.{fits, fitting, given_words, mode_of, task_for}
use Rattle.events_cli.proofs.Answered.{Fits, ReadsFirst, all-read, before-log}

-- the ending that comes with an answer
given-plain : (fault : Option PlainFault) (text : List ℕ) → IsGiven (plain_answer fault text).ending
given-plain None text = tt
given-plain (Some fault) text = tt

given-events : (mode : Mode) (task : Task) (log : Log) (events : List Located) → IsGiven (events_answer mode task log events).ending
given-events ByTraces task log events = tt
given-events InOrder task log events = tt
given-events Undecided task log events = tt
given-events Plain task log events = given-plain (first_fault log.types events) _

given-log : (mode : Mode) (task : Task) (s : Setting) (files : List (List ℕ)) → IsGiven (log_answer mode task s files).ending
given-log Undecided task s files = tt
given-log ByTraces task s files = given-events ByTraces task (log_of (events_of s files)) (events_located s (lines_of s files))
given-log InOrder task s files = given-events InOrder task (log_of (events_of s files)) (events_located s (lines_of s files))
given-log Plain task s files = given-events Plain task (log_of (events_of s files)) (events_located s (lines_of s files))

-- what follows of some bytes of inputs, whatever they are
of-contents : (files : Option Files) (names : List (List ℕ)) (P : List (List ℕ) → Type 0) (Q : Type 0) → ((contents : List (List ℕ)) → P contents → Q) → SomeContents files names P → Q
of-contents None names P Q step some = step some.0 some.2
of-contents (Some fs) names P Q step some = step (told_contents fs names) some

pub given-read : (mode : Mode) (task : Task) (form : Form) (old new : InputState) (a : Answer) → ReadsAnswer mode task form old new a → IsGiven a.ending
given-read mode task form old new a read =
    of-contents old.files (inputs_of task.files) _ (IsGiven a.ending) (λ contents p. subst (λ (b : Answer). IsGiven b.ending) (sym p.2) (given-log mode task (setting_of task form) contents)) read.words

-- the status of a refusal of the log is one of reading
pub status-reading : (e : ReadError) → IsOfReading (status_of e)
status-reading (refused.ReadFault number) = tt
status-reading (refused.LineTooLong at) = tt
status-reading (refused.Undecided at) = tt
status-reading (refused.BadTime at) = tt
status-reading (refused.TypeTooLong at) = tt
status-reading (refused.TraceTooLong at) = tt
status-reading (refused.TypeLimit at) = tt
status-reading (refused.EventLimit at) = tt
status-reading refused.InputLimit = tt
status-reading refused.Memory = tt

pub halt-reading : (halt : Halt) → IsOfReading (halt_status halt)
halt-reading (halts.Read e) = status-reading e
halt-reading halts.Memory = tt

-- memory is answered where memory was wanted
pub log-wants : (e : ReadError) → status_of e ≡ Memory → e ≡ refused.Memory
log-wants refused.Memory is = refl
log-wants e is = cc

-- the run ends where there is no answer
pub halt-ends : ReadAlike → (mode : Mode) (task : Task) (form : Form) (old mid new : InputState) (before after : PatternsState) (halt : Halt) → Fits mode task → ReadsFirst task form old mid
    → new.opens ≤ mid.opens + length (inputs_of task.files) → HasHaltCause task form mid new halt → Ends (halt_status halt) task old new before after
halt-ends law mode task form old mid new before after (halts.Read e) is first few cause = λ words out asks.
    log-ends task (setting_of task form) words (world old before out) (world new after out) mid e (before-log law mode task form old mid is first) refl asks few cause
halt-ends law mode task form old mid new before after halts.Memory is first few cause =
    let all = all-read task form _ old mid new is.form first cause in
    memory-ends task old new before after (read-most (input_count (stages_of task)) old new all) (inl (input_count (stages_of task), omega arith, all))

-- which inputs were opened, after the rules
pub log-turned : (mode : Mode) (task : Task) (form : Form) (old mid new : InputState) → Fits mode task → ReadsFirst task form old mid → OpensFirst (inputs_of task.files) mid new
    → OpensFirst (input_names (stages_of task)) old new
log-turned mode task form old mid new is first turn =
    stages-first (first_stages task) (log_stages task) old mid new first.stays first.read.inputs first.read.turn (log-first task mid new is.form turn)

-- ---- the ending

-- the words ask for the task that fits their mode
pub asked : (words : List (List ℕ)) (mode : Mode) (task : Task) → mode_of words ≡ mode → task_of (given_words words) ≡ Some task → fits mode task ≡ true → task_for words ≡ Some task
asked words mode task of asks fit =
    ap (fitting (mode_of words)) asks ∙ (ap (λ (m : Mode). fitting m (Some task)) of ∙ cond-true (fits mode task) (Some task) None fit)

-- a status of reading is the cause of a refusal
pub refused-cause : (status : Status) (words : List (List ℕ)) (old new : World) → IsOfReading status → run.HasCause status (given_words words) old new → HasCause (endings.Refused status) words old new
refused-cause (Expressions e) words old new is cause = cause
refused-cause (LogStatus fault) words old new is cause = cause
refused-cause (Limit kind) words old new is cause = cause
refused-cause (ReadFault source) words old new is cause = cause
refused-cause Memory words old new is cause = cause
refused-cause status words old new is cause = absurd is

-- an answer that was written whole is the cause of its ending
pub written-cause : (ending : Ending) (words : List (List ℕ)) (task : Task) (old new : World) → IsGiven ending → task_for words ≡ Some task → WritesAll (mode_of words) ending old new task → HasCause ending words old new
written-cause endings.Done words task old new is asks written = (task, asks, written)
written-cause (endings.Undecided count) words task old new is asks written = (task, asks, written)
written-cause (endings.NoPlain fault) words task old new is asks written = (task, asks, written)
written-cause ending words task old new is asks written = absurd is

-- an ending with an answer leaves the count of refused patterns as it was
pub given-count : (ending : Ending) (before after : PatternsState) → IsGiven ending → after.refusals ≡ before.refusals → KeepsCount ending before after
given-count endings.Done before after is kept = kept
given-count (endings.Undecided count) before after is kept = kept
given-count (endings.NoPlain fault) before after is kept = kept
given-count ending before after is kept = absurd is

-- it is no refusal
pub given-other : (ending : Ending) (status : Status) → IsGiven ending → ending ≡ endings.Refused status → ⊥
given-other endings.Done status is same = cc
given-other (endings.Undecided count) status is same = cc
given-other (endings.NoPlain fault) status is same = cc
given-other ending status is same = absurd is

-- words that give no task that fits end for that cause
pub no-task-cause : (e : ParseError) (words : List (List ℕ)) (w : World) → (e ≡ parse_error.Usage → task_for words ≡ None) → HasCause (endings.Refused (status_without_task e)) words w w
no-task-cause parse_error.Usage words w usage = (usage refl, refl)
no-task-cause parse_error.Memory words w usage = no-task-ends parse_error.Memory (given_words words) w (λ is. cc)

-- a status of rules is one of reading
pub rules-reading : (status : Status) → IsOfRules status → IsOfReading status
rules-reading (Expressions e) is = tt
rules-reading (ReadFault source) is = tt
rules-reading Memory is = tt
rules-reading status is = absurd is

-- want of memory hides no fault
pub read-calm : (mode : Mode) (task : Task) (form : Form) (old mid new : InputState) (halt : Halt) → Fits mode task → ReadsFirst task form old mid → halt_status halt ≡ Memory
    → (halt ≡ halts.Read refused.Memory → new.faults ≡ mid.faults) → HasHaltCause task form mid new halt → new.faults ≡ old.faults
read-calm mode task form old mid new (halts.Read e) is first wants calm cause =
    calm (ap halts.Read (log-wants e wants)) ∙ read-faults (input_count (first_stages task)) old mid first.read.inputs
read-calm mode task form old mid new halts.Memory is first wants calm cause =
    read-faults (input_count (stages_of task)) old new (all-read task form _ old mid new is.form first cause)

-- the message of words that give no task is that of any task
pub no-task-told : (e : ParseError) (task : Option Task) → task_message_of None (endings.Refused (status_without_task e)) ≡ task_message_of task (endings.Refused (status_without_task e))
no-task-told parse_error.Usage task = refl
no-task-told parse_error.Memory task = refl
