-- Where files are told and no count rose, the cause of a status makes it the expected one.
use Rattle.std.proofs.Common.{◌≡◌, ◌⊎◌, ℕ, List, [], ◌∷◌, ◌++◌, sym, ap, ◌∙◌, subst, ⊎_elim, inl, inr, Option, None, Some, Result, Ok, Err, refl, IfSome, arith}
use Rattle.std.specs.Option.{IsSomeAnd}
use Rattle.outside.specs.Counts.{Rose}
use Rattle.outside.specs.Inputs.{Files, InputState, bytes_of}
use Rattle.line_rules.specs.Rules.{Rule}
use Rattle.line_rules.specs.Patterns.{NestsTooDeep}
use Rattle.line_rules.specs.Files.{rules_of, IsBuilt}
use Rattle.line_rules.specs.declared.line_rules.RuleError.{RuleError}
use Rattle.line_rules.specs.declared.line_rules.RuleError.TheVariants as rule_error
use Rattle.log_reader.specs.Inputs.{with_content}
use Rattle.command_line.specs.Task.{Task, task_of}
use Rattle.command_line.specs.declared.given.ParseError.{ParseError}
use Rattle.command_line.specs.declared.given.ParseError.TheVariants as parse_error
use Rattle.synoptic_cli.specs.declared.answer.Answer.{Answer}
use Rattle.synoptic_cli.specs.declared.status.LimitKind.{LimitKind}
use Rattle.synoptic_cli.specs.declared.status.LimitKind.TheVariants as limits
use Rattle.synoptic_cli.specs.declared.status.Status.{Status}
use Rattle.synoptic_cli.specs.declared.status.Status.TheVariants.{Done, NoCheck, NoReplay, Usage, Expressions, Log, Limit, ReadFault, WriteFault, Memory, ModelFile}
use Rattle.synoptic_cli.specs.declared.status.Source.{Source}
use Rattle.synoptic_cli.specs.Task.{file_stage, log_stages, model_stages, rules_name, RulesFile, Stage, stages_of}
use Rattle.synoptic_cli.specs.Stages.{SoFar, Stop, and_then, at_start, reads, reads_rules, stop_after, with_rules}
use Rattle.synoptic_cli.specs.Endings.{EndsAfter, EndsOver, EndsTold, HasStatus, IsFirstLacking, IsStatusOf, IsTold, SomeBytes, end_status, told_stages}
use Rattle.synoptic_cli.specs.Causes.{World, FailsToRead, HasCause, IsExpected, IsTooDeep, IsUnread, IsMissing, RefusesRules, Stops, StopsAtLimit, StopsSomewhere, WritesAll}
use Rattle.synoptic_cli.specs.Halts.{status_without_task}
use Rattle.synoptic_cli.proofs.Bytes.{bytes-told}

-- a fact of what an option holds, where it holds it
if-some : {X : Type 0} (o : Option X) (P : X → Type 0) → ((x : X) → o ≡ Some x → P x) → IfSome o P
if-some None P step = tt
if-some (Some x) P step = step x refl

-- the status of a task over the files is that of the words
task-status : (words : List (List ℕ)) (task : Task) (files : Files) (status : Status) → task_of words ≡ Some task → EndsTold files task status → IsStatusOf words files status
task-status words task files status asks told = subst (λ (asked : Option Task). HasStatus asked files status) (sym asks) told

-- where files are told, the ending over some bytes is that over the files
told-end : (task : Task) (files : Files) (end : Result Answer Stop) (told : Option Files) → told ≡ Some files → SomeBytes told (stages_of task) (λ filled. EndsOver task filled end) → EndsTold files task (end_status end)
told-end task files end told some bytes = record {
  end = end;
  ends = bytes-told files (stages_of task) (λ filled. EndsOver task filled end) (subst (λ (f : Option Files). SomeBytes f (stages_of task) (λ filled. EndsOver task filled end)) some bytes);
  is = refl;
}

-- a stop of the reading is how the run ends
told-stop : (task : Task) (files : Files) (stop : Stop) → reads at_start (told_stages files (stages_of task)) ≡ Err stop → EndsTold files task stop.status
told-stop task files stop is = record { end = Err stop; ends = subst (λ (r : Result SoFar Stop). EndsAfter task r (Err stop)) (sym is) refl; is = refl }

-- the task is answered
done-task : (words : List (List ℕ)) (task : Task) (files : Files) (status : Status) (old new : World) → old.inputs.files ≡ Some files → task_of words ≡ Some task → WritesAll status old new task → IsStatusOf words files status
done-task words task files status old new some asks cause =
    task-status words task files status asks (told-end task files (Ok (record { status = status; text = cause.text })) old.inputs.files some cause.answer.ends)

-- the run stops
stops-task : (words : List (List ℕ)) (task : Task) (files : Files) (status : Status) (old new : World) → old.inputs.files ≡ Some files → task_of words ≡ Some task → Stops status old new task → IsStatusOf words files status
stops-task words task files status old new some asks cause =
    task-status words task files status asks (subst (EndsTold files task) cause.answered (told-end task files (Err cause.stop) old.inputs.files some cause.ends))

-- an input is not there
lacking-status : (task : Task) (files : Files) (source : Source) → IsFirstLacking (Some files) task source → EndsTold files task (ReadFault source)
lacking-status task files source lacks = told-stop task files (stop_after lacks.0 (ReadFault source)) lacks.1

read-fault : (words : List (List ℕ)) (task : Task) (files : Files) (source : Source) (old new : World) → old.inputs.files ≡ Some files → task_of words ≡ Some task
    → (Rose old.inputs.faults new.inputs.faults → ⊥) → FailsToRead source old new task → IsStatusOf words files (ReadFault source)
read-fault words task files source old new some asks calm cause =
    ⊎_elim
    (λ (failed : IsUnread source old.inputs new.inputs task). absurd (calm failed.rose))
    (λ (missing : IsMissing source old.inputs new.inputs task).
    task-status words task files (ReadFault source) asks (lacking-status task files source (subst (λ (f : Option Files). IsFirstLacking f task source) some missing.lacking))) cause.why

-- the file of rules is refused, before all else
rules-status : (files : Files) (name bytes : List ℕ) (e : RuleError) (more : List Stage) → bytes_of files name ≡ Some bytes → rules_of bytes ≡ Err e
    → reads at_start (told_stages files (RulesFile name ∷ more)) ≡ Err (stop_after 1 (Expressions e))
rules-status files name bytes e more told refusal =
    let next : SoFar → Result SoFar Stop = λ s. reads s (told_stages files more) in
    ap (λ (o : Option (List ℕ)). and_then (reads_rules at_start (with_content o [])) 1 next) told ∙ ap (λ (r : Result (List Rule) RuleError). and_then (with_rules at_start r) 1 next) refusal

plainly : (words : List (List ℕ)) (task : Task) (name bytes : List ℕ) (files : Files) (e : RuleError) → task_of words ≡ Some task → rules_name task.form ≡ Some name → bytes_of files name ≡ Some bytes
    → rules_of bytes ≡ Err e → IsStatusOf words files (Expressions e)
plainly words task name bytes files e asks is told refusal =
    let read : reads at_start (told_stages files (stages_of task)) ≡ Err (stop_after 1 (Expressions e)) =
    ap (λ (w : Option (List ℕ)). reads at_start (told_stages files ((file_stage RulesFile w ++ model_stages task) ++ log_stages task))) is ∙ rules-status files name bytes e (model_stages task ++ log_stages task) told refusal in
    task-status words task files (Expressions e) asks (told-stop task files (stop_after 1 (Expressions e)) read)

-- the cause of a refusal of the file of rules, where no pattern's refusal was counted
rules-expected : (words : List (List ℕ)) (task : Task) (name : List ℕ) (files : Files) (e : RuleError) (old new : World) → old.inputs.files ≡ Some files → task_of words ≡ Some task
    → rules_name task.form ≡ Some name → (Rose old.patterns.refusals new.patterns.refusals → ⊥) → RefusesRules e old new name → IsStatusOf words files (Expressions e) ⊎ IsTooDeep (Expressions e) words files
rules-expected words task name files (rule_error.Syntax number) old new some asks is calm cause =
    let told : bytes_of files name ≡ Some cause.bytes = subst (λ f. IsTold f name cause.bytes) some cause.told in
    ⊎_elim
    (λ (plain : rules_of cause.bytes ≡ Err (rule_error.Syntax number)). inl (plainly words task name cause.bytes files (rule_error.Syntax number) asks is told plain))
    (λ (deep : (pattern : List ℕ) × IsBuilt cause.bytes number pattern × NestsTooDeep pattern).
    inr (record { name = name; task = (task, asks, is); bytes = cause.bytes; told = told; number = number; answered = refl; pattern = deep.0; built = deep.1; deep = deep.2 }))
    cause.refusal
rules-expected words task name files (rule_error.TooLarge number) old new some asks is calm cause = absurd (calm cause.refusal.0)
rules-expected words task name files rule_error.Memory old new some asks is calm cause = absurd (cause.not_memory refl)
rules-expected words task name files e old new some asks is calm cause = inl (plainly words task name cause.bytes files e asks is (subst (λ f. IsTold f name cause.bytes) some cause.told) cause.refusal)

-- the same, over what the words ask for
rules-form : (words : List (List ℕ)) (task : Task) (w : Option (List ℕ)) (files : Files) (e : RuleError) (old new : World) → old.inputs.files ≡ Some files → task_of words ≡ Some task → rules_name task.form ≡ w
    → (Rose old.patterns.refusals new.patterns.refusals → ⊥) → IsSomeAnd w (RefusesRules e old new) → IsStatusOf words files (Expressions e) ⊎ IsTooDeep (Expressions e) words files
rules-form words task None files e old new some asks is calm cause = absurd cause
rules-form words task (Some name) files e old new some asks is calm cause = rules-expected words task name files e old new some asks is calm cause

-- what comes where memory is there comes
there : {A B C : Type 0} → A ⊎ C → A ⊎ (B ⊎ C)
there (inl a) = inl a
there (inr c) = inr (inr c)

-- at a limit the run stops
limit-stops : (task : Task) (kind : LimitKind) (old new : World) → StopsAtLimit kind old new task → Stops (Limit kind) old new task
limit-stops task limits.Partitions old new cause = cause.stops
limit-stops task limits.Paths old new cause = cause.stops
limit-stops task kind old new cause = cause.stops

-- a status with its cause is the one that is expected of the words and the files
pub cause-expected : (status : Status) (words : List (List ℕ)) (old new : World) → HasCause status words old new → IsExpected status words old new
cause-expected Done words old new cause = if-some old.inputs.files _ (λ files some calm-in calm-patterns calm-out. inl (done-task words cause.0 files Done old new some cause.1 cause.2))
cause-expected (NoCheck part) words old new cause = if-some old.inputs.files _ (λ files some calm-in calm-patterns calm-out. inl (done-task words cause.0 files (NoCheck part) old new some cause.1 cause.2))
cause-expected (NoReplay part) words old new cause = if-some old.inputs.files _ (λ files some calm-in calm-patterns calm-out. inl (done-task words cause.0 files (NoReplay part) old new some cause.1 cause.2))
cause-expected Usage words old new cause = if-some old.inputs.files _ (λ files some calm-in calm-patterns calm-out. inl (subst (λ (asked : Option Task). HasStatus asked files Usage) (sym cause.0) refl))
cause-expected (Expressions e) words old new cause = if-some old.inputs.files _ (λ files some calm-in calm-patterns calm-out. there (rules-form words cause.0 (rules_name cause.0.form) files e old new some cause.1 refl calm-patterns cause.2))
cause-expected (Log fault) words old new cause = if-some old.inputs.files _ (λ files some calm-in calm-patterns calm-out. inl (stops-task words cause.0 files (Log fault) old new some cause.1 cause.2.stops))
cause-expected (Limit kind) words old new cause = if-some old.inputs.files _ (λ files some calm-in calm-patterns calm-out. inl (stops-task words cause.0 files (Limit kind) old new some cause.1 (limit-stops cause.0 kind old new cause.2)))
cause-expected (ReadFault source) words old new cause = if-some old.inputs.files _ (λ files some calm-in calm-patterns calm-out. inl (read-fault words cause.0 files source old new some cause.1 calm-in cause.2))
cause-expected WriteFault words old new cause = if-some old.inputs.files _ (λ files some calm-in calm-patterns calm-out. absurd (calm-out cause.2.rose))
cause-expected Memory words old new cause = if-some old.inputs.files _ (λ files some calm-in calm-patterns calm-out. inr (inl refl))
cause-expected (ModelFile e) words old new cause = if-some old.inputs.files _ (λ files some calm-in calm-patterns calm-out. inl (stops-task words cause.0 files (ModelFile e) old new some cause.1 cause.2.stops))

-- where no call was made, the first none of the inputs were opened
none-opened : (asked : Option Task) (s : InputState) → StopsSomewhere asked s s
none-opened None s = refl
none-opened (Some task) s = inl (0, omega arith, inr (refl, refl))

-- words that give no task end for that cause
pub no-task-ends : (e : ParseError) (words : List (List ℕ)) (w : World) → (e ≡ parse_error.Usage → task_of words ≡ None) → HasCause (status_without_task e) words w w
no-task-ends parse_error.Usage words w usage = (usage refl, refl)
no-task-ends parse_error.Memory words w usage = record { opens = omega arith; stops = none-opened (task_of words) w.inputs; silent = refl }
