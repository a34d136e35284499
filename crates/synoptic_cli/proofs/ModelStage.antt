-- The file of a model: what was read of it, and how a run ends where it gives none.
use Rattle.std.proofs.Common.{Bool, ◌≡◌, ◌≢◌, ℕ, ◌+◌, ◌^◌, ◌<◌, ◌≤◌, List, [], ◌∷◌, length, take, drop, nat_lt, true, sym, ap, ◌∙◌, subst, ⊎_elim, inl, inr, arith, Option, Some, None, Result, Ok, Err, refl, IsTrue}
use Rattle.std.proofs.lemmas.Bool.{cond-true, cases_lt}
use Rattle.std.proofs.lemmas.Bool.Decides.{nat_tests}
use Rattle.std.specs.Prelude.{IfOk, IsSome}
use Rattle.std.specs.Option.{IsSomeAnd}
use Rattle.outside.specs.Inputs.{Files, InputState, Lacks, Stays}
use Rattle.outside.specs.Reading.{IfTold, OpensNamed, OpensNone, ReadsInput}
use Rattle.invariants.specs.declared.records.Model.{Model}
use Rattle.model_file.specs.Reading.{reads_as, Fails}
use Rattle.model_file.specs.Versions.{max_bytes}
use Rattle.model_file.specs.declared.version.Version.{Version}
use Rattle.model_file.specs.declared.version.Version.TheVariants.{One, Two}
use Rattle.model_file.specs.declared.refusal.FileError.{FileError}
use Rattle.model_file.specs.declared.refusal.FileError.TheVariants as refused
use Rattle.line_rules.specs.Patterns.{PatternsState}
use Rattle.log_reader.specs.Inputs.{StopsBefore, with_content}
use Rattle.command_line.specs.Task.{Task}
use Rattle.synoptic_cli.specs.declared.status.Status.TheVariants.{ReadFault, Memory}
use Rattle.synoptic_cli.specs.declared.status.Status.TheVariants as statuses
use Rattle.synoptic_cli.specs.declared.status.Source.{Source}
use Rattle.synoptic_cli.specs.declared.status.Source.TheVariants as sources
use Rattle.synoptic_cli.specs.declared.stages.SoFar as rust
use Rattle.synoptic_cli.specs.declared.model_stage.ModelHalt.{ModelHalt}
use Rattle.synoptic_cli.specs.declared.model_stage.ModelHalt.TheVariants as halts
use Rattle.synoptic_cli.specs.Task.{ModelFile, Stage, first_stages, input_count, log_stages, file_stage, model_stages, rules_stages, stages_of, version_of}
use Rattle.synoptic_cli.specs.Stages.{Filled, SoFar, Stop, and_then, at_start, reads, reads_model, stop_after, with_model}
use Rattle.synoptic_cli.specs.Endings.{EndsAfter, EndsOver, IsFirstLacking, ReadAll, SomeBytes}
use Rattle.synoptic_cli.specs.Causes.{LeavesOpen, Stops, World, world}
use Rattle.synoptic_cli.specs.Halts.{Ends, FitsVersion, HasRead, IsHeld, ModelHalts, Reads, ReadsModel, RefusesFile, halt_of, halt_status}
use Rattle.synoptic_cli.proofs.Bytes.{bytes-first, bytes-map, bytes-told, contents-one, input_count-append, later, reads-stop}
use Rattle.synoptic_cli.proofs.Through.{StopsReading, open-through, read-faults, read-most, read-stop, stop-bytes, stop-first, stops-through}
use Rattle.synoptic_cli.proofs.Texts.{rose-since}
use Rattle.synoptic_cli.proofs.Rules.{memory-ends, reads-open, told-bytes, told-part, whole-or-long}

-- ---- the file

-- what holds of what was read, and what holds of it too, hold of it both
pub both-ok : {A E : Type 0} (r : Result A E) (P Q : A → Type 0) → IfOk r P → IfOk r Q → IfOk r (λ x. P x × Q x)
both-ok (Ok x) P Q p q = (p, q)
both-ok (Err e) P Q p q = tt

-- so many bytes can be asked for
pub few-bytes : (version : Version) → max_bytes version < 2 ^ 32
few-bytes One = omega arith
few-bytes Two = omega arith

too-long : (version : Version) (bytes : List ℕ) → max_bytes version < length bytes → reads_as version bytes ≡ Err refused.TooLong
unfolding reads_as
too-long version bytes over =
    let test : nat_lt (max_bytes version) (length bytes) ≡ true = grind (arith, nat_tests) in
    cond-true _ _ _ test

-- what is read of a file up to the limit says what the whole says
model-same : (version : Version) (content bytes : List ℕ) → bytes ≡ take (max_bytes version + 1) content → reads_as version bytes ≡ reads_as version content
model-same version content bytes same =
    ⊎_elim (λ (whole : bytes ≡ content). ap (reads_as version) whole)
    (λ (long : (max_bytes version < length bytes) × (max_bytes version < length content)). too-long version bytes long.0 ∙ sym (too-long version content long.1)) (whole-or-long (max_bytes version) content bytes same)

-- a file that was read so was read to its end
short-read : (version : Version) (bytes : List ℕ) (model : Model) → reads_as version bytes ≡ Ok model → length bytes ≤ max_bytes version
short-read version bytes model read =
    ⊎_elim
    (λ (over : max_bytes version < length bytes). let e : reads_as version bytes ≡ Err refused.TooLong = too-long version bytes over in cc)
    (λ (short : length bytes ≤ max_bytes version). short)
    (cases_lt (max_bytes version) (length bytes))

-- the model that is read of a file, up to one byte past its limit, is that of the file
pub model-read : (version : Version) (old new : InputState) (name bytes : List ℕ) (model : Model) → ReadsInput old new name (max_bytes version) bytes → reads_as version bytes ≡ Ok model
    → FitsVersion version model → ReadsModel version old new name model
model-read version old new name bytes model reads read shaped =
    let found = told-bytes (max_bytes version) old.files name bytes (λ content. reads_as version content ≡ Ok model) _ reads.told (λ content same. sym (model-same version content bytes same) ∙ read) read in
    record {
      bytes = found.0;
      told = found.1;
      read = found.2;
      shaped = shaped;
      opened = inl (omega arith, record { opens = reads.opens; faults = reads.faults }, reads.at_end (short-read version bytes model read));
      turn = reads.turn;
    }

-- a refusal that is not want of memory is that of the bytes
fails-is : {A : Type 0} (e : FileError) (read : Result A FileError) → e ≢ refused.Memory → Fails e read → read ≡ Err e
fails-is refused.Memory read other fails = absurd (other refl)
fails-is e read other fails = fails

-- a refusal of what was read of a file is that of the file, unless memory was wanted
pub model-refused : (version : Version) (old new : InputState) (name bytes : List ℕ) (e : FileError) → ReadsInput old new name (max_bytes version) bytes → e ≢ refused.Memory → Fails e (reads_as version bytes)
    → RefusesFile version old new name e
model-refused version old new name bytes e reads other fails =
    let read = fails-is e (reads_as version bytes) other fails in
    let found = told-bytes (max_bytes version) old.files name bytes (λ content. reads_as version content ≡ Err e) _ reads.told (λ content same. sym (model-same version content bytes same) ∙ read) read in
    record { bytes = found.0; told = found.1; read = found.2; not_memory = other; opened = record { opens = reads.opens; faults = reads.faults }; rest = told-part old.files name _ _ reads.told }

-- a refusal of what was read of a file is why the file gives no model
pub model-halts : (version : Version) (old new : InputState) (name bytes : List ℕ) (e : FileError) → ReadsInput old new name (max_bytes version) bytes → Fails e (reads_as version bytes)
    → ModelHalts version old new name (halt_of e)
model-halts version old new name bytes refused.Memory reads fails = reads-open old new name (max_bytes version) bytes reads
model-halts version old new name bytes e reads fails = model-refused version old new name bytes e reads (λ same. cc) fails

-- ---- the stage

-- the model of a file takes what the program holds to the same with that model
pub model-held : (version : Version) (held : rust.SoFar) (old new : InputState) (name : List ℕ) (model : Model) → ReadsModel version old new name model
    → Reads version (ModelFile version name ∷ []) held old new (record { rules = held.rules; material = record { log = held.material.log; model = model } })
model-held version held old new name model read = λ so_far is. (
  record { form = so_far.form; material = record { log = so_far.material.log; model = model } },
  record { form = is.form; material = ap (λ m. record { log = m.log; model = model }) is.material; shaped = read.shaped },
  record {
    bytes =
        contents-one old.files name read.bytes (λ contents. reads so_far ((ModelFile version name, contents) ∷ []) ≡ Ok (record { form = so_far.form; material = record { log = so_far.material.log; model = model } })) read.told
        (ap (λ (r : Result Model FileError). and_then (with_model so_far r) 1 (λ next. Ok next)) read.read);
    inputs = read.opened;
    turn = read.turn;
  },
)

-- what stands before the stage of the model, and what it reads
pub record BeforeModel (task : Task) (name : List ℕ) (old mid : InputState) : Type 0 where
  pub so_far : SoFar
  pub stays : Stays old mid
  pub read : HasRead (rules_stages task) old mid at_start so_far
  pub named : task.model ≡ Some name

-- the stage alone stops
model-stops : (version : Version) (so_far : SoFar) (old new : InputState) (name : List ℕ) (e : FileError) → RefusesFile version old new name e
    → StopsReading (ModelFile version name ∷ []) old new so_far (stop_after 1 (statuses.ModelFile e))
model-stops version so_far old new name e refuses = record {
  bytes =
      contents-one old.files name refuses.bytes (λ contents. reads so_far ((ModelFile version name, contents) ∷ []) ≡ Err (stop_after 1 (statuses.ModelFile e))) refuses.told
      (ap (λ (r : Result Model FileError). and_then (with_model so_far r) 1 (λ next. Ok next)) refuses.read);
  opened = inl (omega arith, refuses.opened);
}

-- the same for the stage of the task
stage-named : (task : Task) (name : List ℕ) (P : List Stage → Type 0) → task.model ≡ Some name → P (ModelFile (version_of task.command) name ∷ []) → P (model_stages task)
stage-named task name P named here = subst (λ (w : Option (List ℕ)). P (file_stage (ModelFile (version_of task.command)) w)) (sym named) here

-- a reading that stops ends the run
pub stopped : (task : Task) (filled : List Filled) (stop : Stop) → reads at_start filled ≡ Err stop → EndsOver task filled (Err stop)
stopped task filled stop is = subst (λ (r : Result SoFar Stop). EndsAfter task r (Err stop)) (sym is) refl

-- the run stops where its model's file is refused
refuses : (task : Task) (name : List ℕ) (old new : World) (mid : InputState) (e : FileError) → BeforeModel task name old.inputs mid → new.out ≡ old.out → RefusesFile (version_of task.command) mid new.inputs name e
    → Stops (statuses.ModelFile e) old new task
refuses task name old new mid e before silent refusal =
    let stop = stop_after 1 (statuses.ModelFile e) in
    let first = later (input_count (rules_stages task)) stop in
    let here : StopsReading (model_stages task) mid new.inputs before.so_far stop =
    stage-named task name (λ (stages : List Stage). StopsReading stages mid new.inputs before.so_far stop) before.named (model-stops (version_of task.command) before.so_far mid new.inputs name e refusal) in
    let there =
    stop-first (first_stages task) (log_stages task) old.inputs new.inputs at_start first
    (read-stop (rules_stages task) (model_stages task) old.inputs mid new.inputs at_start before.so_far stop before.stays before.read here) in
    record {
      stop = first;
      answered = refl;
      ends = bytes-map old.inputs.files (stages_of task) _ (λ filled. EndsOver task filled (Err first)) (λ filled is. stopped task filled first is) there.bytes;
      opened = there.opened;
      silent = silent;
    }

-- the model's file is not there
lacks-value : (version : Version) (so_far : SoFar) (told : Option Files) (name : List ℕ) → Lacks told name
    → SomeBytes told (ModelFile version name ∷ []) (λ filled. reads so_far filled ≡ Err (stop_after 0 (ReadFault sources.ModelFile)))
lacks-value version so_far None name lacks = absurd lacks
lacks-value version so_far (Some files) name lacks = ap (λ (o : Option (List ℕ)). and_then (reads_model version so_far (with_content o [])) 1 (λ next. Ok next)) lacks

-- files are told where one of them is not there
told-lacks : (told : Option Files) (name : List ℕ) → Lacks told name → IsSome told
told-lacks None name lacks = absurd lacks
told-lacks (Some files) name lacks = refl

-- the first file that is not there stops the reading of all stages
pub first-lacking : (told : Option Files) (task : Task) (source : Source) (count : ℕ) → IsSome told → SomeBytes told (stages_of task) (λ filled. reads at_start filled ≡ Err (stop_after count (ReadFault source)))
    → IsFirstLacking told task source
first-lacking None task source count some bytes = cc
first-lacking (Some files) task source count some bytes = (count, bytes-told files (stages_of task) (λ filled. reads at_start filled ≡ Err (stop_after count (ReadFault source))) bytes)

model-lacks : (task : Task) (name : List ℕ) (old mid : InputState) → BeforeModel task name old mid → Lacks mid.files name → IsFirstLacking old.files task sources.ModelFile
model-lacks task name old mid before lacking =
    let stop : Stop = stop_after 0 (ReadFault sources.ModelFile) in
    let count = input_count (rules_stages task) in
    let here : SomeBytes mid.files (model_stages task) (λ filled. reads before.so_far filled ≡ Err stop) =
    stage-named task name (λ (stages : List Stage). SomeBytes mid.files stages (λ filled. reads before.so_far filled ≡ Err stop)) before.named (lacks-value (version_of task.command) before.so_far mid.files name lacking) in
    let first =
    stop-bytes old.files (rules_stages task) (model_stages task) at_start before.so_far stop before.read.bytes
    (subst (λ (files : Option Files). SomeBytes files (model_stages task) (λ filled. reads before.so_far filled ≡ Err stop)) before.stays.files here) in
    first-lacking old.files task sources.ModelFile (count + 0) (subst (λ (files : Option Files). IsSome files) before.stays.files (told-lacks mid.files name lacking))
    (bytes-first old.files (first_stages task) (log_stages task) (λ f. reads at_start f ≡ Err (later count stop)) (λ f. reads at_start f ≡ Err (later count stop)) (λ f s. reads-stop f s at_start (later count stop)) first)

-- the model's file is one input of its task
pub one-more : (task : Task) (name : List ℕ) → task.model ≡ Some name → input_count (rules_stages task) + 1 ≤ input_count (stages_of task)
one-more task name named =
    let one : input_count (model_stages task) ≡ 1 = stage-named task name (λ (stages : List Stage). input_count stages ≡ 1) named (omega arith) in
    omega (arith, one, input_count-append (rules_stages task) (model_stages task), input_count-append (first_stages task) (log_stages task))

-- the model's file is open
stays-open : (task : Task) (name : List ℕ) (old mid new : InputState) → ReadAll (input_count (rules_stages task)) old mid → Stays old mid → task.model ≡ Some name → OpensNamed mid new name (max_bytes (version_of task.command))
    → IsSomeAnd task.model (LeavesOpen task sources.ModelFile old new)
stays-open task name old mid new read stays named within =
    let count = input_count (rules_stages task) in
    let same : count + 0 ≡ count = omega arith in
    let here : LeavesOpen task sources.ModelFile old new name =
    open-through task sources.ModelFile count 0 (max_bytes (version_of task.command)) old mid new name read stays same refl within.opens within.mark within.left in
    subst (λ (w : Option (List ℕ)). IsSomeAnd w (LeavesOpen task sources.ModelFile old new)) (sym named) here

-- the run ends so where the model's file gives none
model-ends : (task : Task) (name : List ℕ) (old mid new : InputState) (before after : PatternsState) (halt : ModelHalt) → BeforeModel task name old mid → ModelHalts (version_of task.command) mid new name halt
    → Ends (halt_status halt) task old new before after
model-ends task name old mid new before after halts.Missing here cause = λ words out asks. (
  task,
  asks,
  record {
    why =
        inr (record {
          lacking = model-lacks task name old mid here cause.0;
          opened = subst (λ (n : ℕ). StopsBefore n old new) (omega arith) (stops-through (input_count (rules_stages task)) 0 old mid new here.read.inputs (record { opens = cause.1.opens; closed = cause.1.closed }));
          faults = cause.2 ∙ read-faults (input_count (rules_stages task)) old mid here.read.inputs;
        });
    silent = refl;
  },
)
model-ends task name old mid new before after halts.Fault here cause = λ words out asks. (
  task,
  asks,
  record {
    why =
        inl (record {
          rose = rose-since old.faults mid.faults new.faults here.stays.faults cause.0;
          may_fail = subst (λ (w : Option (List ℕ)). IsSomeAnd w (λ n. IsTrue (old.may_fail n))) (sym here.named) (subst (λ (may_fail : List ℕ → Bool). IsTrue (may_fail name)) here.stays.may_fail cause.1);
          room = max_bytes (version_of task.command);
          is_room = refl;
          opened =
              ⊎_elim
              (λ (none : OpensNone mid new). inl (subst (λ (n : ℕ). StopsBefore n old new) (omega arith) (stops-through (input_count (rules_stages task)) 0 old mid new here.read.inputs (record { opens = none.opens; closed = none.closed }))))
              (λ (named : OpensNamed mid new name (max_bytes (version_of task.command))).
              inr (stays-open task name old mid new here.read.inputs here.stays here.named named))
              cause.2;
        });
    silent = refl;
  },
)
model-ends task name old mid new before after (halts.Refused e) here cause = λ words out asks. (
  task,
  asks,
  record {
    stops = refuses task name (world old before out) (world new after out) mid e here refl cause;
    not_memory = cause.not_memory;
    read =
        subst (λ (w : Option (List ℕ)). IsSomeAnd w (λ n. IfTold old.files n (λ content. new.rest ≡ Some (drop (max_bytes (version_of task.command) + 1) content)))) (sym here.named)
        (subst (λ (files : Option Files). IfTold files name (λ content. new.rest ≡ Some (drop (max_bytes (version_of task.command) + 1) content))) here.stays.files cause.rest);
  },
)
model-ends task name old mid new before after halts.Memory here cause =
    memory-ends task old new before after (omega (arith, cause.opens, read-most (input_count (rules_stages task)) old mid here.read.inputs, one-more task name here.named))
    (inr (sources.ModelFile, stays-open task name old mid new here.read.inputs here.stays here.named cause))

-- the same over what the task has
model-ends-of : (task : Task) (w : Option (List ℕ)) (old mid new : InputState) (before after : PatternsState) (halt : ModelHalt) → task.model ≡ w → ((name : List ℕ) → task.model ≡ Some name → BeforeModel task name old mid)
    → IsSomeAnd w (λ name. ModelHalts (version_of task.command) mid new name halt) → Ends (halt_status halt) task old new before after
model-ends-of task None old mid new before after halt is here cause = absurd cause
model-ends-of task (Some name) old mid new before after halt is here cause = model-ends task name old mid new before after halt (here name is) cause

-- the run ends so where its model's file gives none, for what the program holds
pub model-stage-ends : (task : Task) (start held : rust.SoFar) (old mid new : InputState) (before after : PatternsState) (halt : ModelHalt) → IsHeld (version_of task.command) start at_start → Stays old mid
    → Reads (version_of task.command) (rules_stages task) start old mid held → IsSomeAnd task.model (λ name. ModelHalts (version_of task.command) mid new name halt) → Ends (halt_status halt) task old new before after
model-stage-ends task start held old mid new before after halt is stays first cause =
    let a = first at_start is in
    model-ends-of task task.model old mid new before after halt refl (λ name named. record { so_far = a.0; stays = stays; read = a.2; named = named }) cause

-- memory is answered where memory was wanted
pub halt-memory : (halt : ModelHalt) → halt_status halt ≡ Memory → halt ≡ halts.Memory
halt-memory halts.Memory is = refl
halt-memory halt is = cc
