-- How a migration ends, and what a check says of what it wrote.
use Rattle.std.proofs.Common.{◌≡◌, ◌∙◌, ℕ, List, [], Option, Some, Result, Ok, Err, sym, ap, subst}
use Rattle.outside.specs.Inputs.{Files, bytes_of}
use Rattle.invariants.specs.declared.Kinds.{Kinds}
use Rattle.invariants.specs.declared.records.Model.{Model}
use Rattle.models.specs.Models.{typed_words}
use Rattle.models.specs.Checks.{IsValid}
use Rattle.model_check.specs.declared.verdict.Verdict.{Verdict}
use Rattle.model_check.specs.declared.verdict.Verdict.TheVariants.{Yes, No}
use Rattle.model_file.specs.Tree.{file_text}
use Rattle.model_file.specs.Reading.{reads as file_reads, reads_version_1}
use Rattle.model_file.specs.declared.refusal.FileError.{FileError}
use Rattle.model_file.specs.declared.version.Version.TheVariants.{One}
use Rattle.log_reader.specs.Inputs.{with_content}
use Rattle.command_line.specs.Task.{Task}
use Rattle.synoptic_cli.specs.declared.answer.Answer.{Answer}
use Rattle.synoptic_cli.specs.declared.material.Material.{Material}
use Rattle.synoptic_cli.specs.declared.status.LimitKind.{LimitKind}
use Rattle.synoptic_cli.specs.Task.{stages_of}
use Rattle.synoptic_cli.specs.Stages.{SoFar, Stop, and_then, at_start, reads, reads_model, with_model}
use Rattle.synoptic_cli.specs.Commands.Answered.{done}
use Rattle.synoptic_cli.specs.Commands.CheckModel.{Says, answer_of}
use Rattle.synoptic_cli.specs.Commands.MigrateModel as migrate_model
use Rattle.synoptic_cli.specs.Endings.{EndsAfter, EndsOver, told_stages}
use Rattle.synoptic_cli.specs.Rechecks.{checking}
use Rattle.synoptic_cli.specs.Migrations.{MigratedAreAlike, MigrationsEnd, migrated, migrating}
use Rattle.synoptic_cli.proofs.Rechecked.{check-reads, ends-yes, put}

-- what is read of a model's file alone, by what the file is read as
abbrev read_by : Result Model FileError → Result SoFar Stop
read_by r = and_then (with_model at_start r) 1 (λ next. Ok next)

-- a migration reads its file alone
migration-reads : (files : Files) (name bytes : List ℕ) → bytes_of files name ≡ Some bytes → reads at_start (told_stages files (stages_of (migrating name))) ≡ read_by (reads_version_1 bytes)
migration-reads files name bytes told = ap (λ (o : Option (List ℕ)). and_then (reads_model One at_start (with_content o [])) 1 (λ next. Ok next)) told

ends-by : (name : List ℕ) (r : Result Model FileError) (end : Result Answer Stop) → EndsAfter (migrating name) (read_by r) end → end ≡ migrated r
ends-by name (Ok m) (Ok a) ends =
    let same : ◌≡◌ {A = Result Answer LimitKind} (Ok a) (Ok (done (file_text m))) = ends.value in
    let is : a ≡ done (file_text m) = cc in
    ap (λ (x : Answer). let r : Result Answer Stop = Ok x in r) is
ends-by name (Ok m) (Err last) ends =
    let same : ◌≡◌ {A = Result Answer LimitKind} (Err ends.0) (Ok (done (file_text m))) = ends.1.value in
    cc
ends-by name (Err e) (Ok a) ends = absurd ends
ends-by name (Err e) (Err last) ends = ap (λ (s : Stop). let r : Result Answer Stop = Err s in r) ends

-- the end of a migration, by what is read of its file
ends-read : (files : Files) (name bytes : List ℕ) (end : Result Answer Stop) → bytes_of files name ≡ Some bytes → EndsOver (migrating name) (told_stages files (stages_of (migrating name))) end
    → EndsAfter (migrating name) (read_by (reads_version_1 bytes)) end
ends-read files name bytes end told ends = subst (λ (r : Result SoFar Stop). EndsAfter (migrating name) r end) (migration-reads files name bytes told) ends

-- a migration ends as version 1 reads its file
pub migrations-end : MigrationsEnd
migrations-end files name bytes end told ends = ends-by name (reads_version_1 bytes) end (ends-read files name bytes end told ends)

-- where yes is told, the model is valid
said-valid : (m : Material) (v : Verdict) → Says m.model (typed_words m.model.kinds m.log) v → answer_of v ≡ answer_of Yes → IsValid m.model (typed_words m.model.kinds m.log)
said-valid m Yes says is = says.0
said-valid m (No part) says is = let same : (answer_of (No part)).status ≡ (answer_of Yes).status = ap (λ (a : Answer). a.status) is in absurd cc

yes-valid : (task : Task) (name : List ℕ) (s : SoFar) (end : Result Answer Stop) → EndsAfter (checking task name) (Ok s) end → end ≡ Ok (answer_of Yes)
    → IsValid s.material.model (typed_words s.material.model.kinds s.material.log)
yes-valid task name s (Ok a) ends is =
    let told : ◌≡◌ {A = Result Answer LimitKind} (Ok a) (Ok (answer_of ends.verdict)) = ends.value in
    let same : answer_of ends.verdict ≡ answer_of Yes = cc in
    said-valid s.material ends.verdict ends.exact same
yes-valid task name s (Err last) ends is = absurd cc

-- what a migration answered, of the model that was read
wrote : (files : Files) (name bytes : List ℕ) (model : Model) (a : Answer) → bytes_of files name ≡ Some bytes → reads_version_1 bytes ≡ Ok model
    → EndsOver (migrating name) (told_stages files (stages_of (migrating name))) (Ok a) → migrate_model.Answers (record { log = at_start.material.log; model = model }) (Ok a)
wrote files name bytes model a told read ends = subst (λ (r : Result Model FileError). EndsAfter (migrating name) (read_by r) (Ok a)) read (ends-read files name bytes (Ok a) told ends)

-- the check of what a migration wrote says yes exactly where the model that was read is valid
pub migrated-alike : MigratedAreAlike
migrated-alike before after former name bytes model a task so_far end there read ends told none whole checked =
    let answers = wrote before former bytes model a there read ends in
    let same : ◌≡◌ {A = Result Answer LimitKind} (Ok a) (Ok (done (file_text model))) = answers.value in
    let is : a ≡ done (file_text model) = cc in
    let text : a.text ≡ file_text model = ap (λ (x : Answer). x.text) is in
    let back : file_reads a.text ≡ Ok model = ap file_reads text ∙ answers.reads_back in
    let over : EndsAfter (checking task name) (Ok (put model so_far)) end =
    subst (λ (r : Result SoFar Stop). EndsAfter (checking task name) r end) (check-reads after task name a.text model so_far none whole told back) checked in (
      λ yes. subst (λ (kinds : Kinds). IsValid model (typed_words kinds so_far.material.log)) answers.former.kinds (yes-valid task name (put model so_far) end over yes),
      λ valid. ends-yes task name (put model so_far) end (subst (λ (kinds : Kinds). IsValid model (typed_words kinds so_far.material.log)) (sym answers.former.kinds) valid) over,
    )
