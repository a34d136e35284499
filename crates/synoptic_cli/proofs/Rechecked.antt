-- The model of a log is accepted by its check and by its replay.
use Rattle.std.proofs.Common.{◌≡◌, ◌≤◌, ℕ, ◌+◌, Bool, true, false, nat_lt, List, [], ◌∷◌, ◌++◌, length, Option, Some, None, Result, Ok, Err, refl, sym, ap, ◌∙◌, subst}
use Rattle.std.specs.Prelude.{if◌then◌else◌}
use Rattle.std.proofs.lemmas.List.{append-nil, map-append}
use Rattle.outside.specs.Inputs.{Files, bytes_of}
use Rattle.invariants.specs.declared.Kinds.{Kinds}
use Rattle.invariants.specs.declared.records.Model.{Model}
use Rattle.traces.specs.Words.{log_of}
use Rattle.models.specs.Models.{typed_words, TypedWords}
use Rattle.models.specs.Checks.{IsValid}
use Rattle.models.specs.Histories.{IsJustified}
use Rattle.models.proofs.Valid.{models-valid, models_pass}
use Rattle.model_check.specs.declared.verdict.Verdict.{Verdict}
use Rattle.model_check.specs.declared.verdict.Verdict.TheVariants.{Yes, No}
use Rattle.replay_check.specs.declared.answer.Replay as rust
use Rattle.replay_check.specs.declared.answer.Replay.TheVariants as outcomes
use Rattle.model_file.specs.Reading.{reads as file_reads}
use Rattle.model_file.specs.declared.refusal.FileError.{FileError}
use Rattle.model_file.specs.declared.version.Version.TheVariants.{Two}
use Rattle.log_reader.specs.Reading.{Setting, events_of, first_refusal}
use Rattle.log_reader.specs.Inputs.{inputs_of, told_contents, with_content}
use Rattle.log_reader.specs.declared.refusal.ReadError.{ReadError}
use Rattle.command_line.specs.Task.{LineForm, Task}
use Rattle.command_line.specs.declared.table.Command.{Command}
use Rattle.command_line.specs.declared.table.Command.TheVariants.{Infer}
use Rattle.synoptic_cli.specs.declared.answer.Answer.{Answer}
use Rattle.synoptic_cli.specs.declared.material.Material.{Material}
use Rattle.synoptic_cli.specs.declared.status.LimitKind.{LimitKind}
use Rattle.synoptic_cli.specs.Task.{ModelFile, Stage, file_stage, log_stage, log_stages, rules_stages, stage_names, stages_of, version_of}
use Rattle.synoptic_cli.specs.Stages.{Filled, SoFar, Stop, after, and_then, at_start, reads, reads_model, setting_by, with_log, with_model}
use Rattle.synoptic_cli.specs.Commands.{AnswersBy}
use Rattle.synoptic_cli.specs.Commands.CheckModel.{Says, answer_of}
use Rattle.synoptic_cli.specs.Commands.ReplayModel as replay_model
use Rattle.synoptic_cli.specs.Endings.{EndsAfter, end_status, told_stages}
use Rattle.synoptic_cli.specs.Rechecks.{HistoriesAreAccepted, InferredAreAccepted, InferredAreReplayed, ModelsAreAccepted, checking, replaying}
use Rattle.synoptic_cli.proofs.Bytes.{after-ok, filled_count, reads-append, reads-stop}

-- the same with this model
abbrev pub put : Model → SoFar → SoFar
put model s = record { form = s.form; material = record { log = s.material.log; model = model } }

put-ok : (model : Model) (a b : SoFar) → ◌≡◌ {A = Result SoFar Stop} (Ok a) (Ok b) → ◌≡◌ {A = Result SoFar Stop} (Ok (put model a)) (Ok (put model b))
put-ok model a b is =
    let same : a ≡ b = cc in
    ap (λ (s : SoFar). let r : Result SoFar Stop = Ok (put model s) in r) same

-- a log is read alike beside any model
put-if : (model : Model) (a b : SoFar) (stop : Stop) (short : Bool) → (if short then Err stop else Ok a) ≡ Ok b → (if short then Err stop else Ok (put model a)) ≡ Ok (put model b)
put-if model a b stop true is = cc
put-if model a b stop false is = put-ok model a b is

put-log : (model : Model) (a b : SoFar) (t : Setting) (count : ℕ) (contents : List (List ℕ)) (refusal : Option ReadError) → with_log a t count contents refusal ≡ Ok b
    → with_log (put model a) t count contents refusal ≡ Ok (put model b)
put-log model a b t count contents (Some e) is = cc
put-log model a b t count contents None is =
    put-if model (record { form = a.form; material = record { log = log_of (events_of t contents); model = a.material.model } }) b _ (nat_lt (length contents) count) is

then-none : (r : Result SoFar Stop) (n : ℕ) → and_then r n (λ next. reads next []) ≡ r
then-none (Ok s) n = refl
then-none (Err stop) n = refl

put-stage : (files : Files) (model : Model) (a b : SoFar) (lines : Option LineForm) (names : List (List ℕ)) (ignore join : Bool) → reads a (told_stages files (log_stage lines names ignore join)) ≡ Ok b
    → reads (put model a) (told_stages files (log_stage lines names ignore join)) ≡ Ok (put model b)
put-stage files model a b None names ignore join is = put-ok model a b is
put-stage files model a b (Some lines) names ignore join is =
    let t : Setting = setting_by a ignore join in
    let contents : List (List ℕ) = told_contents files (inputs_of names) in
    let count : ℕ = length (inputs_of names) in
    then-none (with_log (put model a) t count contents (first_refusal t contents)) count
    ∙ put-log model a b t count contents (first_refusal t contents) (sym (then-none (with_log a t count contents (first_refusal t contents)) count) ∙ is)

-- what the stage of the model reads
model-reads : (files : Files) (name bytes : List ℕ) (model : Model) (a : SoFar) → bytes_of files name ≡ Some bytes → file_reads bytes ≡ Ok model
    → reads a (told_stages files (ModelFile Two name ∷ [])) ≡ Ok (put model a)
model-reads files name bytes model a told read =
    ap (λ (o : Option (List ℕ)). and_then (reads_model Two a (with_content o [])) 1 (λ next. Ok next)) told ∙ ap (λ (r : Result Model FileError). and_then (with_model a r) 1 (λ next. Ok next)) read

-- stages that are read, and one more before the last of them
put-between : (rules file log : List Filled) (model : Model) (s : SoFar) → ((a : SoFar) → reads a file ≡ Ok (put model a)) → ((a : SoFar) → reads a log ≡ Ok s → reads (put model a) log ≡ Ok (put model s))
    → reads at_start (rules ++ log) ≡ Ok s → (r : Result SoFar Stop) → reads at_start rules ≡ r → reads at_start ((rules ++ file) ++ log) ≡ Ok (put model s)
put-between rules file log model s here later whole (Err stop) is =
    let stops : reads at_start (rules ++ log) ≡ Err stop = reads-stop rules log at_start stop is in
    cc
put-between rules file log model s here later whole (Ok a) is =
    let rest : reads a log ≡ Ok s = after-ok (filled_count rules) (reads a log) s (sym (reads-append rules log at_start a is) ∙ whole) in
    let first : reads at_start (rules ++ file) ≡ Ok (put model a) = reads-append rules file at_start a is ∙ ap (after (filled_count rules)) (here a) in
    reads-append (rules ++ file) log at_start (put model a) first ∙ ap (after (filled_count (rules ++ file))) (later a rest)

told-append : (files : Files) (a b : List Stage) → told_stages files (a ++ b) ≡ told_stages files a ++ told_stages files b
told-append files a b = map-append (λ (stage : Stage). let x : Filled = (stage, told_contents files (stage_names stage)) in x) a b

-- the stages of a task that reads no model, and of the check against the named file
without-file : (files : Files) (task : Task) → task.model ≡ None → told_stages files (stages_of task) ≡ told_stages files (rules_stages task) ++ told_stages files (log_stages task)
without-file files task none =
    ap (λ (w : Option (List ℕ)). told_stages files ((rules_stages task ++ file_stage (ModelFile (version_of task.command)) w) ++ log_stages task)) none
    ∙ (ap (λ (first : List Stage). told_stages files (first ++ log_stages task)) (append-nil (rules_stages task)) ∙ told-append files (rules_stages task) (log_stages task))

with-file : (files : Files) (task : Task) (name : List ℕ)
    → told_stages files (stages_of (checking task name)) ≡ (told_stages files (rules_stages task) ++ told_stages files (ModelFile Two name ∷ [])) ++ told_stages files (log_stages task)
with-file files task name =
    told-append files (rules_stages task ++ (ModelFile Two name ∷ [])) (log_stages task)
    ∙ ap (λ (first : List Filled). first ++ told_stages files (log_stages task)) (told-append files (rules_stages task) (ModelFile Two name ∷ []))

pub check-reads : (files : Files) (task : Task) (name bytes : List ℕ) (model : Model) (s : SoFar) → task.model ≡ None → reads at_start (told_stages files (stages_of task)) ≡ Ok s → bytes_of files name ≡ Some bytes
    → file_reads bytes ≡ Ok model → reads at_start (told_stages files (stages_of (checking task name))) ≡ Ok (put model s)
check-reads files task name bytes model s none whole told read =
    let rules : List Filled = told_stages files (rules_stages task) in
    ap (reads at_start) (with-file files task name)
    ∙ put-between rules (told_stages files (ModelFile Two name ∷ [])) (told_stages files (log_stages task)) model s (λ a. model-reads files name bytes model a told read)
    (λ a is. put-stage files model a s task.form task.files task.ignore task.join is) (sym (ap (reads at_start) (without-file files task none)) ∙ whole) (reads at_start rules) refl

-- a valid model gives yes
said-yes : (m : Material) (v : Verdict) (r : Result Answer LimitKind) → IsValid m.model (typed_words m.model.kinds m.log) → Says m.model (typed_words m.model.kinds m.log) v → r ≡ Ok (answer_of v) → r ≡ Ok (answer_of Yes)
said-yes m Yes r valid says is = is
said-yes m (No part) r valid says is = absurd (says.0 valid)

pub ends-yes : (task : Task) (name : List ℕ) (s : SoFar) (end : Result Answer Stop) → IsValid s.material.model (typed_words s.material.model.kinds s.material.log) → EndsAfter (checking task name) (Ok s) end → end ≡ Ok (answer_of Yes)
ends-yes task name s (Ok a) valid ends =
    let same : ◌≡◌ {A = Result Answer LimitKind} (Ok a) (Ok (answer_of Yes)) = said-yes s.material ends.verdict (Ok a) valid ends.exact ends.value in
    let is : a ≡ answer_of Yes = cc in
    ap (λ (x : Answer). let r : Result Answer Stop = Ok x in r) is
ends-yes task name s (Err last) valid ends =
    let same : ◌≡◌ {A = Result Answer LimitKind} (Err ends.0) (Ok (answer_of Yes)) = said-yes s.material ends.1.verdict (Err ends.0) valid ends.1.exact ends.1.value in
    cc

-- a file that says the model of a log passes its check against that log
pub models-accepted : ModelsAreAccepted
models-accepted files task name bytes model so_far end none whole typed is told read ends =
    ends-yes task name (put model so_far) end (models-valid model (typed_words model.kinds so_far.material.log) typed is)
    (subst (λ (r : Result SoFar Stop). EndsAfter (checking task name) r end) (check-reads files task name bytes model so_far none whole told read) ends)

-- what was inferred of a log is the file of a model that is valid for it
accepted-after : (files : Files) (task : Task) (name : List ℕ) (a : Answer) (end : Result Answer Stop) (r : Result SoFar Stop) → task.command ≡ Infer → task.model ≡ None
    → reads at_start (told_stages files (stages_of task)) ≡ r → EndsAfter task r (Ok a) → bytes_of files name ≡ Some a.text
    → EndsAfter (checking task name) (reads at_start (told_stages files (stages_of (checking task name)))) end → end ≡ Ok (answer_of Yes)
accepted-after files task name a end (Err stop) infers none whole wrote told ends = absurd wrote
accepted-after files task name a end (Ok s) infers none whole wrote told ends =
    let answers : AnswersBy Infer task s.material (Ok a) = subst (λ (command : Command). AnswersBy command task s.material (Ok a)) infers wrote in
    ends-yes task name (put answers.1.model s) end (subst (λ (kinds : Kinds). IsValid answers.1.model (typed_words kinds s.material.log)) (sym answers.1.inferred.kinds) answers.1.valid)
    (subst (λ (r : Result SoFar Stop). EndsAfter (checking task name) r end) (check-reads files task name a.text answers.1.model s none whole told answers.1.reads_back) ends)

-- a file with the text that an inference answered passes its check against the same log
pub inferred-accepted : InferredAreAccepted
inferred-accepted before after task name a status infers none alike wrote told ended =
    let same : EndsAfter task (reads at_start (told_stages after (stages_of task))) (Ok a) = subst (λ (filled : List Filled). EndsAfter task (reads at_start filled) (Ok a)) alike wrote in
    let yes : ended.end ≡ Ok (answer_of Yes) = accepted-after after task name a ended.end (reads at_start (told_stages after (stages_of task))) infers none refl same told ended.ends in
    (yes, sym ended.is ∙ ap end_status yes)

-- a justified history gives yes
replayed-yes : (m : Material) (v : rust.Replay) (r : Result Answer LimitKind) → IsJustified m.model (typed_words m.model.kinds m.log) → replay_model.Says m.model (typed_words m.model.kinds m.log) v → r ≡ Ok (replay_model.answer_of v)
    → r ≡ Ok (replay_model.answer_of outcomes.Yes)
replayed-yes m outcomes.Yes r justified says is = is
replayed-yes m (outcomes.No part) r justified says is = absurd (says.0 justified)

replay-ends-yes : (task : Task) (name : List ℕ) (s : SoFar) (end : Result Answer Stop) → IsJustified s.material.model (typed_words s.material.model.kinds s.material.log) → EndsAfter (replaying task name) (Ok s) end
    → end ≡ Ok (replay_model.answer_of outcomes.Yes)
replay-ends-yes task name s (Ok a) justified ends =
    let same : ◌≡◌ {A = Result Answer LimitKind} (Ok a) (Ok (replay_model.answer_of outcomes.Yes)) = replayed-yes s.material ends.outcome (Ok a) justified ends.exact ends.value in
    let is : a ≡ replay_model.answer_of outcomes.Yes = cc in
    ap (λ (x : Answer). let r : Result Answer Stop = Ok x in r) is
replay-ends-yes task name s (Err last) justified ends =
    let same : ◌≡◌ {A = Result Answer LimitKind} (Err ends.0) (Ok (replay_model.answer_of outcomes.Yes)) = replayed-yes s.material ends.1.outcome (Err ends.0) justified ends.1.exact ends.1.value in
    cc

-- a file that says the model of a log, within the limits, passes its replay against that log
pub histories-accepted : HistoriesAreAccepted
histories-accepted files task name bytes model so_far end none whole typed is within told read ends =
    let log : TypedWords = typed_words model.kinds so_far.material.log in
    let ids : length log.types + 2 + length model.splits ≤ 1024 = subst (λ (ts : List (List ℕ)). length ts + 2 + length model.splits ≤ 1024) is.types within.ids in
    let passes = models_pass model log typed is ids in
    replay-ends-yes task name (put model so_far) end passes.1
    (subst (λ (r : Result SoFar Stop). EndsAfter (replaying task name) r end) (check-reads files task name bytes model so_far none whole told read) ends)

-- what was inferred of a log is the file of a model whose history is justified by it
replayed-after : (files : Files) (task : Task) (name : List ℕ) (a : Answer) (end : Result Answer Stop) (r : Result SoFar Stop) → task.command ≡ Infer → task.model ≡ None
    → reads at_start (told_stages files (stages_of task)) ≡ r → EndsAfter task r (Ok a) → bytes_of files name ≡ Some a.text
    → EndsAfter (replaying task name) (reads at_start (told_stages files (stages_of (replaying task name)))) end → end ≡ Ok (replay_model.answer_of outcomes.Yes)
replayed-after files task name a end (Err stop) infers none whole wrote told ends = absurd wrote
replayed-after files task name a end (Ok s) infers none whole wrote told ends =
    let answers : AnswersBy Infer task s.material (Ok a) = subst (λ (command : Command). AnswersBy command task s.material (Ok a)) infers wrote in
    replay-ends-yes task name (put answers.1.model s) end
    (subst (λ (kinds : Kinds). IsJustified answers.1.model (typed_words kinds s.material.log)) (sym answers.1.inferred.kinds) answers.1.justified)
    (subst (λ (r : Result SoFar Stop). EndsAfter (replaying task name) r end) (check-reads files task name a.text answers.1.model s none whole told answers.1.reads_back) ends)

-- a file with the text that an inference answered passes its replay against the same log
pub inferred-replayed : InferredAreReplayed
inferred-replayed before after task name a status infers none alike wrote told ended =
    let same : EndsAfter task (reads at_start (told_stages after (stages_of task))) (Ok a) = subst (λ (filled : List Filled). EndsAfter task (reads at_start filled) (Ok a)) alike wrote in
    let yes : ended.end ≡ Ok (replay_model.answer_of outcomes.Yes) = replayed-after after task name a ended.end (reads at_start (told_stages after (stages_of task))) infers none refl same told ended.ends in
    (yes, sym ended.is ∙ ap end_status yes)
