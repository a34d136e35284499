-- What a task reads, and what is written of its log.
use Rattle.std.proofs.Common.{◌≡◌, ℕ, Bool, true, false, ◌&&◌, ◌||◌, not, List, [], ◌∷◌, ◌++◌, append-nil, length, refl, sym, ap, ◌∙◌, subst, inl, inr, arith, Option, Some, None, Result, Ok}
use Rattle.std.specs.Prelude.{IsSome, is_some, is_none}
use Rattle.outside.specs.Inputs.{Files, InputState, Stays}
use Rattle.traces.specs.Words.{log_of}
use Rattle.log_reader.specs.Reading as form
use Rattle.log_reader.specs.Reading.{Form, Setting, events_of, first_refusal, setting}
use Rattle.log_reader.specs.Inputs.{SomeContents, inputs_of}
use Rattle.line_rules.specs.Views.{rules_in}
use Rattle.line_rules.specs.declared.line_rules.LineRules.{LineRules}
use Rattle.command_line.specs.Task.{Task}
use Rattle.command_line.specs.Task as ask
use Rattle.events.specs.Reading.{ReadsAll}
use Rattle.synoptic_cli.specs.Endings.{OpensAll, ReadAll, SomeBytes}
use Rattle.synoptic_cli.specs.Halts.{AreAlikeForms, HasRead, ReadsRules, setting_of}
use Rattle.synoptic_cli.specs.Stages.{Filled, SoFar, Stop, after, and_then, at_start, no_model, reads, setting_by}
use Rattle.synoptic_cli.specs.Task.{LogFiles, ModelFile, RulesFile, Stage, file_stage, first_stages, input_count, input_names, log_stages, rules_name, rules_stages, stages_of, version_of}
use Rattle.synoptic_cli.specs.declared.stages.SoFar as rust
use Rattle.synoptic_cli.proofs.Begun.{begun}
use Rattle.synoptic_cli.proofs.Rules.{rules-held}
use Rattle.synoptic_cli.proofs.Bytes.{bytes-both, contents-map, filled_count, input_count-append, reads-append}
use Rattle.synoptic_cli.proofs.Through.{read-both, stages-all}
use Rattle.synoptic_cli.proofs.LogStage.{AreReadAlike, ReadAlike, alike-forms, log-stage-is, log-turn, log-value, some-input}
use Rattle.synoptic_cli.proofs.Ends.{Before}
use Rattle.events_cli.specs.declared.answer.Answer.{Answer}
use Rattle.events_cli.specs.declared.mode.Mode.{Mode}
use Rattle.events_cli.specs.Answers.{log_answer}
use Rattle.events_cli.specs.Causes.{HasAnswer, IsAnswer, log_bytes}
use Rattle.events_cli.specs.Steps.{ReadsAnswer, ReadsForm}
use Rattle.events_cli.specs.Words.{fits, lists_undecided}
use Rattle.events_cli.proofs.Alike.{alike-piece, same-answer}

-- what a task that fits the mode is
pub record Fits (mode : Mode) (task : Task) : Type 0 where
  pub form : IsSome task.form
  pub model : task.model ≡ None
  pub skips : lists_undecided mode ≡ true → task.ignore ≡ true

abbrev Parts : Option ask.LineForm → Option (List ℕ) → Bool → Bool → Type 0
Parts form model lists ignore = IsSome form × (model ≡ None) × (lists ≡ true → ignore ≡ true)

fits-by : (form : Option ask.LineForm) (model : Option (List ℕ)) (lists ignore : Bool) → (is_some form && is_none model && (not lists || ignore)) ≡ true → Parts form model lists ignore
fits-by None model lists ignore is = cc
fits-by (Some f) (Some m) lists ignore is = cc
fits-by (Some f) None true true is = (refl, refl, λ l. refl)
fits-by (Some f) None true false is = cc
fits-by (Some f) None false ignore is = (refl, refl, λ (l : false ≡ true). cc)

pub fits-is : (mode : Mode) (task : Task) → fits mode task ≡ true → Fits mode task
fits-is mode task is =
    let p = fits-by task.form task.model (lists_undecided mode) task.ignore is in
    record { form = p.0; model = p.1; skips = p.2 }

-- a task without a model reads the rules before its log, and nothing else
first-is : (task : Task) → task.model ≡ None → first_stages task ≡ rules_stages task
first-is task none =
    ap (λ (m : Option (List ℕ)). rules_stages task ++ file_stage (ModelFile (version_of task.command)) m) none ∙ append-nil (rules_stages task)

-- lines in the plain form are read by no file
pub plain-form : (task : Task) (old : InputState) → rules_name task.form ≡ None → ReadsForm task old old form.Plain
plain-form task old none = record {
  so_far = at_start;
  alike = tt;
  read = subst (λ (w : Option (List ℕ)). HasRead (file_stage RulesFile w) old old at_start at_start) (sym none) (record { bytes = refl; inputs = inr (refl, refl); turn = refl });
}

-- the rules of a file decide lines as what was read of it does
pub rules-form : (task : Task) (old new : InputState) (name : List ℕ) (rules : LineRules) → rules_name task.form ≡ Some name → ReadsRules old new name (rules_in rules)
    → ReadsForm task old new (form.Rules (rules_in rules))
rules-form task old new name rules is read =
    let held : rust.SoFar = record { rules = None; material = at_start.material } in
    let gives = rules-held (version_of task.command) held old new name rules read at_start (begun (log_of []) no_model refl refl (version_of task.command)) in
    record {
      so_far = gives.0;
      alike = gives.1.form;
      read = subst (λ (w : Option (List ℕ)). HasRead (file_stage RulesFile w) old new at_start gives.0) (sym is) gives.2;
    }

-- what was read before the log
pub record ReadsFirst (task : Task) (form : Form) (old mid : InputState) : Type 0 where
  pub so_far : SoFar
  pub stays : Stays old mid
  pub read : HasRead (first_stages task) old mid at_start so_far
  pub alike : AreAlikeForms form so_far.form

pub first-read : (mode : Mode) (task : Task) (form : Form) (old mid : InputState) → Fits mode task → Stays old mid → ReadsForm task old mid form → ReadsFirst task form old mid
first-read mode task form old mid is stays read = record {
  so_far = read.so_far;
  stays = stays;
  read = subst (λ (stages : List Stage). HasRead stages old mid at_start read.so_far) (sym (first-is task is.model)) read.read;
  alike = read.alike;
}

-- the same as the log's reading wants it
pub before-log : ReadAlike → (mode : Mode) (task : Task) (form : Form) (old mid : InputState) → Fits mode task → ReadsFirst task form old mid → Before task (setting_of task form) old mid
before-log law mode task form old mid is first = record {
  so_far = first.so_far;
  stays = first.stays;
  read = first.read;
  alike = alike-forms law form first.so_far.form task.ignore task.join first.alike;
  log = log-stage-is task is.form;
}

-- the inputs of the log were read
log-all : (task : Task) (s : Setting) (P : List (List ℕ) → Type 0) (mid new : InputState) → IsSome task.form → ReadsAll s (inputs_of task.files) mid new P → ReadAll (input_count (log_stages task)) mid new
log-all task s P mid new form read =
    let some = some-input task.files in
    subst (λ (stages : List Stage). ReadAll (input_count stages) mid new) (sym (log-stage-is task form))
    (inl (omega (arith, some), record { opens = omega (arith, read.opened.opens); faults = read.opened.faults }, read.at_end))

-- all inputs of the task were read
pub all-read : (task : Task) (form : Form) (P : List (List ℕ) → Type 0) (old mid new : InputState) → IsSome task.form → ReadsFirst task form old mid → ReadsAll (setting_of task form) (inputs_of task.files) mid new P
    → ReadAll (input_count (stages_of task)) old new
all-read task form P old mid new some first read =
    subst (λ (n : ℕ). ReadAll n old new) (sym (input_count-append (first_stages task) (log_stages task)))
    (read-both (input_count (first_stages task)) (input_count (log_stages task)) old mid new first.read.inputs (log-all task (setting_of task form) P mid new some read))

-- the last of some bytes
last-bytes : (f : List Filled) (last : Filled) → log_bytes (f ++ last ∷ []) ≡ last.1
last-bytes [] last = refl
last-bytes (a ∷ []) last = refl
last-bytes (a ∷ b ∷ f) last = last-bytes (b ∷ f) last

-- what the stage of the log gives
record LogGives (mode : Mode) (task : Task) (a : Answer) (so_far : SoFar) (filled : List Filled) : Type 0 where
  pub last : Filled
  pub is : filled ≡ last ∷ []
  pub next : SoFar
  pub read : reads so_far filled ≡ Ok next
  pub form : next.form ≡ so_far.form
  pub answer : a ≡ log_answer mode task (setting_by so_far task.ignore task.join) last.1

log-gives : ReadAlike → (mode : Mode) (task : Task) (form : Form) (a : Answer) (so_far : SoFar) (files : Option Files) → AreAlikeForms form so_far.form
    → SomeContents files (inputs_of task.files) (λ contents. (length contents ≡ length (inputs_of task.files)) × (first_refusal (setting_of task form) contents ≡ None) × (a ≡ log_answer mode task (setting_of task form) contents))
    → SomeBytes files (LogFiles (inputs_of task.files) task.ignore task.join ∷ []) (LogGives mode task a so_far)
log-gives law mode task form a so_far files alike words =
    let names = inputs_of task.files in
    let t = setting_by so_far task.ignore task.join in
    let both : AreReadAlike (setting_of task form) t = alike-forms law form so_far.form task.ignore task.join alike in
    contents-map files names _ (λ contents. LogGives mode task a so_far ((LogFiles names task.ignore task.join, contents) ∷ []))
    (λ contents p. record {
      last = (LogFiles names task.ignore task.join, contents);
      is = refl;
      next = record { form = so_far.form; material = record { log = log_of (events_of (setting_of task form) contents); model = so_far.material.model } };
      read = ap (λ (r : Result SoFar Stop). and_then r (length names) (λ n. Ok n)) (log-value so_far (setting_of task form) t (length names) contents (log_of (events_of (setting_of task form) contents)) both p.0 p.1 refl);
      form = refl;
      answer = p.2 ∙ same-answer form so_far.form task.ignore task.join (alike-piece form so_far.form alike) mode task contents both;
    })
    words

-- both together give the answer
put-together : (mode : Mode) (task : Task) (a : Answer) (so_far : SoFar) (f s : List Filled) → reads at_start f ≡ Ok so_far → LogGives mode task a so_far s → IsAnswer mode task a (f ++ s)
put-together mode task a so_far f s first gives = record {
  so_far = gives.next;
  read = reads-append f s at_start so_far first ∙ ap (after (filled_count f)) gives.read;
  is =
      gives.answer
      ∙ (ap (λ (form : Form). log_answer mode task (setting form task.ignore task.join) gives.last.1) (sym gives.form)
      ∙ ap (log_answer mode task (setting_by gives.next task.ignore task.join)) (sym (ap (λ (rest : List Filled). log_bytes (f ++ rest)) gives.is ∙ last-bytes f gives.last)));
}

-- where the rules and then the log were read, this is what is written of the task's log
pub answered : ReadAlike → (mode : Mode) (task : Task) (form : Form) (a : Answer) (old mid new : InputState) → Fits mode task → ReadsFirst task form old mid → ReadsAnswer mode task form mid new a
    → HasAnswer mode task a old new
answered law mode task form a old mid new is first read =
    let stage = log-stage-is task is.form in
    let names = inputs_of task.files in
    record {
      ends =
          bytes-both old.files (first_stages task) (log_stages task) (λ f. reads at_start f ≡ Ok first.so_far) (LogGives mode task a first.so_far) (IsAnswer mode task a) (put-together mode task a first.so_far) first.read.bytes
          (subst (λ (stages : List Stage). SomeBytes old.files stages (LogGives mode task a first.so_far)) (sym stage)
          (subst (λ (files : Option Files). SomeBytes files (LogFiles names task.ignore task.join ∷ []) (LogGives mode task a first.so_far)) first.stays.files
          (log-gives law mode task form a first.so_far mid.files first.alike read.words)));
      read = all-read task form _ old mid new is.form first read;
      turn =
          stages-all (first_stages task) (log_stages task) old mid new first.stays first.read.inputs first.read.turn
          (subst (λ (stages : List Stage). OpensAll (input_names stages) mid new) (sym stage) (log-turn names mid new (some-input task.files) read.turn));
    }
