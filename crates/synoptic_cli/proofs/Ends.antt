-- What a task reads, and why a run ends where its log is refused.
use Rattle.std.proofs.Common.{◌≡◌, ◌∙◌, ◌⊎◌, ◌+◌, ◌≤◌, ℕ, Bool, List, [], ◌∷◌, length, sym, ap, subst, ⊎_elim, inl, inr, arith, Option, None, Some, Err, IsTrue, slice_get, take, refl}
use Rattle.std.specs.Prelude.{IsSome}
use Rattle.std.specs.Option.{IsSomeAnd}
use Rattle.outside.specs.Inputs.{Files, InputState, Stays}
use Rattle.outside.specs.Turns.{OpensFirst}
use Rattle.line_rules.specs.Patterns.{PatternsState}
use Rattle.log_reader.specs.Reading.{Setting}
use Rattle.log_reader.specs.Inputs.{StopsAnywhere as LogAnywhere, RefusesLog, Fails as LogFails, IsMissing as LogMissing, IsLacking, HasReadCause, LeavesRoom, StopsBefore, StopsWithin, inputs_of}
use Rattle.log_reader.specs.declared.refusal.ReadError.{ReadError}
use Rattle.log_reader.specs.declared.refusal.ReadError.TheVariants as refused
use Rattle.command_line.specs.Task.{Task, task_of}
use Rattle.synoptic_cli.specs.declared.status.Status.TheVariants.{Memory, ReadFault}
use Rattle.synoptic_cli.specs.declared.status.Source.TheVariants as sources
use Rattle.synoptic_cli.specs.declared.stages.SoFar as rust
use Rattle.synoptic_cli.specs.Task.{LogFiles, Stage, input_count, input_names, log_stages, first_stages, model_stages, rules_stages, stages_of, version_of}
use Rattle.synoptic_cli.specs.Stages.{SoFar, Stop, at_start, reads, setting_by, status_of, stop_after}
use Rattle.synoptic_cli.specs.Endings.{EndsOver, IsFirstLacking, ReadAll, SomeBytes}
use Rattle.synoptic_cli.specs.Causes.{World, FailsToRead, HasCause, LeavesOpen, StopsAnywhere, StopsInLog, world}
use Rattle.synoptic_cli.specs.Halts.{Ends, HasRead, IsHeld, LogHalts, Reads, ReadsTask, held_form, setting_of}
use Rattle.synoptic_cli.proofs.Texts.{rose-since}
use Rattle.synoptic_cli.proofs.Bytes.{bytes-map, input_count-append, later}
use Rattle.synoptic_cli.proofs.Through.{StopsReading, open-through, read-faults, read-more, read-most, read-stop, stages-first, stages-more, stop-bytes, stops-through}
use Rattle.synoptic_cli.proofs.Rules.{memory-ends}
use Rattle.synoptic_cli.proofs.ModelStage.{first-lacking, stopped}
use Rattle.synoptic_cli.proofs.LogStage.{AreReadAlike, ReadAlike, alike-forms, log-lacks, log-stage-is, log-stops}

-- where the stages before the log and then the log were read, all inputs of the task were read
pub task-read : (task : Task) (start held : rust.SoFar) (old mid new : InputState) (last : rust.SoFar) → IsHeld (version_of task.command) start at_start → Stays old mid → Reads (version_of task.command) (first_stages task) start old mid held
    → Reads (version_of task.command) (log_stages task) held mid new last → ReadsTask task old new last.material
task-read task start held old mid new last is stays first second =
    let a = first at_start is in
    let b = second a.0 a.1 in
    record { so_far = b.0; value = b.1.material; shaped = b.1.shaped; read = read-more (first_stages task) (log_stages task) old mid new at_start a.0 b.0 stays a.2 b.2 }

-- what stands before the stage of the log, which is read with this setting
pub record Before (task : Task) (s : Setting) (old mid : InputState) : Type 0 where
  pub so_far : SoFar
  pub stays : Stays old mid
  pub read : HasRead (first_stages task) old mid at_start so_far
  pub alike : AreReadAlike s (setting_by so_far task.ignore task.join)
  pub log : log_stages task ≡ LogFiles (inputs_of task.files) task.ignore task.join ∷ []

-- the room for a file of the log, from before the first stage on
room-since : (task : Task) (number room : ℕ) (old mid : InputState) → Stays old mid → LeavesRoom mid.files (take number (inputs_of task.files)) room → LeavesRoom old.files (take number (inputs_of task.files)) room
room-since task number room old mid stays before = subst (λ (files : Option Files). LeavesRoom files (take number (inputs_of task.files)) room) stays.files before

-- the file at which reading stopped is open
open-within : (task : Task) (o : Option (List ℕ)) (number : ℕ) (old mid new : InputState) → ReadAll (input_count (first_stages task)) old mid → Stays old mid
    → IsSomeAnd o (StopsWithin (inputs_of task.files) number mid new) → IsSomeAnd o (LeavesOpen task (sources.Log number) old new)
open-within task None number old mid new read stays within = absurd within
open-within task (Some name) number old mid new read stays within =
    open-through task (sources.Log number) (input_count (first_stages task)) number within.room old mid new name read stays refl (room-since task number within.room old mid stays within.before) within.opens within.mark within.left

-- the log is refused
refuses : (task : Task) (s : Setting) (old new : World) (mid : InputState) (e : ReadError) → Before task s old.inputs mid → new.out ≡ old.out
    → RefusesLog s (inputs_of task.files) mid new.inputs e → StopsInLog (status_of e) old new task
refuses task s old new mid e before silent refusal =
    let stop = stop_after (refusal.number + 1) (status_of e) in
    let here = log-stops before.so_far s (inputs_of task.files) task.ignore task.join mid new.inputs e before.alike refusal in
    let there =
    read-stop (first_stages task) (log_stages task) old.inputs mid new.inputs at_start before.so_far stop before.stays before.read
    (subst (λ (stages : List Stage). StopsReading stages mid new.inputs before.so_far stop) (sym before.log) here) in
    record {
      stops = record {
        stop = later (input_count (first_stages task)) stop;
        answered = refl;
        ends = bytes-map old.inputs.files (stages_of task) _ (λ filled. EndsOver task filled (Err (later (input_count (first_stages task)) stop))) (λ filled is. stopped task filled (later (input_count (first_stages task)) stop) is) there.bytes;
        opened = there.opened;
        silent = silent;
      };
      number = refusal.number;
      within = open-within task (slice_get (inputs_of task.files) refusal.number) refusal.number old.inputs mid new.inputs before.read.inputs before.stays refusal.stops;
    }

-- a file of the log is not there
lacks-told : (s : Setting) (told : Option Files) (names : List (List ℕ)) (number : ℕ) → IsLacking s told names number → IsSome told
lacks-told s None names number lacks = absurd lacks
lacks-told s (Some files) names number lacks = refl

lacks : (task : Task) (s : Setting) (old mid : InputState) (number : ℕ) → Before task s old mid → IsLacking s mid.files (inputs_of task.files) number → IsFirstLacking old.files task (sources.Log number)
lacks task s old mid number before lacking =
    let stop : Stop = stop_after number (ReadFault (sources.Log number)) in
    let here : SomeBytes mid.files (log_stages task) (λ filled. reads before.so_far filled ≡ Err stop) =
    subst (λ (stages : List Stage). SomeBytes mid.files stages (λ filled. reads before.so_far filled ≡ Err stop)) (sym before.log)
    (log-lacks before.so_far s (inputs_of task.files) task.ignore task.join mid.files number before.alike lacking) in
    first-lacking old.files task (sources.Log number) (input_count (first_stages task) + number) (subst (λ (files : Option Files). IsSome files) before.stays.files (lacks-told s mid.files (inputs_of task.files) number lacking))
    (stop-bytes old.files (first_stages task) (log_stages task) at_start before.so_far stop before.read.bytes
    (subst (λ (files : Option Files). SomeBytes files (log_stages task) (λ filled. reads before.so_far filled ≡ Err stop)) before.stays.files here))

-- a file of the log could not be read
fails : (task : Task) (s : Setting) (old new : World) (mid : InputState) (number : ℕ) → Before task s old.inputs mid → new.out ≡ old.out
    → LogFails (inputs_of task.files) mid new.inputs number ⊎ LogMissing s (inputs_of task.files) mid new.inputs number → FailsToRead (sources.Log number) old new task
fails task s old new mid number before silent cause =
    let count = input_count (first_stages task) in
    record {
      why =
          ⊎_elim
          (λ (failed : LogFails (inputs_of task.files) mid new.inputs number).
          inl (record {
            rose = rose-since old.inputs.faults mid.faults new.inputs.faults before.stays.faults failed.fault.0;
            may_fail = subst (λ (may_fail : List ℕ → Bool). IsSomeAnd (slice_get (inputs_of task.files) number) (λ name. IsTrue (may_fail name))) before.stays.may_fail failed.fault.1;
            room = failed.room;
            is_room = room-since task number failed.room old.inputs mid before.stays failed.before;
            opened =
                ⊎_elim (λ (none : StopsBefore number mid new.inputs). inl (stops-through count number old.inputs mid new.inputs before.read.inputs none))
                (λ (within : IsSomeAnd (slice_get (inputs_of task.files) number) (StopsWithin (inputs_of task.files) number mid new.inputs)).
                inr (open-within task (slice_get (inputs_of task.files) number) number old.inputs mid new.inputs before.read.inputs before.stays within))
                failed.stops;
          }))
          (λ (missing : LogMissing s (inputs_of task.files) mid new.inputs number).
          inr (record {
            lacking = lacks task s old.inputs mid number before missing.0;
            opened = stops-through count number old.inputs mid new.inputs before.read.inputs missing.1;
            faults = missing.2 ∙ read-faults count old.inputs mid before.read.inputs;
          }))
          cause;
      silent = silent;
    }

-- the task has as many inputs as its file of rules and its log
pub inputs-are : (task : Task) (s : Setting) (old mid : InputState) → Before task s old mid → input_count (stages_of task) ≡ input_count (first_stages task) + length (inputs_of task.files)
inputs-are task s old mid before =
    let log : input_count (log_stages task) ≡ length (inputs_of task.files) + 0 = ap input_count before.log in
    omega (arith, log, input_count-append (first_stages task) (log_stages task))

-- memory was wanted in the log, or before its first input
pub stops-anywhere : (task : Task) (s : Setting) (old mid new : InputState) → Before task s old mid → LogAnywhere (inputs_of task.files) mid new → StopsAnywhere task old new
stops-anywhere task s old mid new before cause =
    let count = input_count (first_stages task) in
    ⊎_elim
    (λ (same : new ≡ mid). inl (count, omega (arith, inputs-are task s old mid before), subst (λ (t : InputState). ReadAll count old t) (sym same) before.read.inputs))
    (λ (within : (number : ℕ) × IsSomeAnd (slice_get (inputs_of task.files) number) (StopsWithin (inputs_of task.files) number mid new)).
    inr (sources.Log within.0, open-within task (slice_get (inputs_of task.files) within.0) within.0 old mid new before.read.inputs before.stays within.1))
    cause

-- the run ends by the refusal of its log
pub log-ends : (task : Task) (s : Setting) (words : List (List ℕ)) (old new : World) (mid : InputState) (e : ReadError) → Before task s old.inputs mid → new.out ≡ old.out → task_of words ≡ Some task
    → new.inputs.opens ≤ mid.opens + length (inputs_of task.files) → HasReadCause s (inputs_of task.files) mid new.inputs e → HasCause (status_of e) words old new
log-ends task s words old new mid (refused.ReadFault number) before silent asks few cause = (task, asks, fails task s old new mid number before silent cause)
log-ends task s words old new mid refused.Memory before silent asks few cause =
    let most = read-most (input_count (first_stages task)) old.inputs mid before.read.inputs in
    let wants =
    memory-ends task old.inputs new.inputs old.patterns old.patterns (omega (arith, few, most, inputs-are task s old.inputs mid before)) (stops-anywhere task s old.inputs mid new.inputs before cause) words old.out asks in
    record { opens = wants.opens; stops = wants.stops; silent = silent }
log-ends task s words old new mid (refused.TypeLimit at) before silent asks few cause = (task, asks, refuses task s old new mid (refused.TypeLimit at) before silent cause)
log-ends task s words old new mid (refused.EventLimit at) before silent asks few cause = (task, asks, refuses task s old new mid (refused.EventLimit at) before silent cause)
log-ends task s words old new mid refused.InputLimit before silent asks few cause = (task, asks, refuses task s old new mid refused.InputLimit before silent cause)
log-ends task s words old new mid e before silent asks few cause = (task, asks, refuses task s old new mid e before silent cause)

-- the same for what the program holds
pub log-stage-ends : ReadAlike → (task : Task) (start held : rust.SoFar) (old mid new : InputState) (before after : PatternsState) (e : ReadError) → IsHeld (version_of task.command) start at_start → Stays old mid
    → Reads (version_of task.command) (first_stages task) start old mid held → LogHalts task (held_form held) mid new e → Ends (status_of e) task old new before after
log-stage-ends law task start held old mid new before after e is stays first halts = λ words out asks.
    let a = first at_start is in
    log-ends task (setting_of task (held_form held)) words (world old before out) (world new after out) mid e
    (record { so_far = a.0; stays = stays; read = a.2; alike = alike-forms law (held_form held) a.0.form task.ignore task.join a.1.form; log = log-stage-is task halts.reads })
    refl asks halts.opens halts.cause

-- memory is answered where memory was wanted
pub log-memory : (e : ReadError) → status_of e ≡ Memory → e ≡ refused.Memory
log-memory refused.Memory is = refl
log-memory e is = cc

-- no fault was counted before the stage of the log
pub stage-faults : (task : Task) (start held : rust.SoFar) (old mid : InputState) → IsHeld (version_of task.command) start at_start → Reads (version_of task.command) (first_stages task) start old mid held → mid.faults ≡ old.faults
stage-faults task start held old mid is first = read-faults (input_count (first_stages task)) old mid (first at_start is).2.inputs

-- no fault was counted before the stage of the model
pub rules-faults : (task : Task) (start held : rust.SoFar) (old mid : InputState) → IsHeld (version_of task.command) start at_start → Reads (version_of task.command) (rules_stages task) start old mid held → mid.faults ≡ old.faults
rules-faults task start held old mid is first = read-faults (input_count (rules_stages task)) old mid (first at_start is).2.inputs

-- ---- which inputs were opened

-- where the run ends in the stage of the rules
pub rules-turn : (task : Task) (old new : InputState) → OpensFirst (input_names (rules_stages task)) old new → OpensFirst (input_names (stages_of task)) old new
rules-turn task old new first =
    stages-more (first_stages task) (log_stages task) old new (stages-more (rules_stages task) (model_stages task) old new first)

-- in the stage of the model
pub model-turn : (task : Task) (start held : rust.SoFar) (old mid new : InputState) → IsHeld (version_of task.command) start at_start → Stays old mid
    → Reads (version_of task.command) (rules_stages task) start old mid held → OpensFirst (input_names (model_stages task)) mid new → OpensFirst (input_names (stages_of task)) old new
model-turn task start held old mid new is stays first second =
    let read = (first at_start is).2 in
    stages-more (first_stages task) (log_stages task) old new (stages-first (rules_stages task) (model_stages task) old mid new stays read.inputs read.turn second)

-- in the stage of the log, or after it
pub last-turn : (task : Task) (start held : rust.SoFar) (old mid new : InputState) → IsHeld (version_of task.command) start at_start → Stays old mid
    → Reads (version_of task.command) (first_stages task) start old mid held → OpensFirst (input_names (log_stages task)) mid new → OpensFirst (input_names (stages_of task)) old new
last-turn task start held old mid new is stays first second =
    let read = (first at_start is).2 in
    stages-first (first_stages task) (log_stages task) old mid new stays read.inputs read.turn second
