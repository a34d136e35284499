-- The stage of the log: what was read of it, and where its reading stops.
use Rattle.std.proofs.Common.{◌≡◌, ℕ, suc, ◌+◌, ◌<◌, Bool, true, false, nat_lt, List, [], ◌∷◌, ◌++◌, append-nil, length, refl, sym, ap, ◌∙◌, subst, inl, arith, Option, Some, None, Result, Ok, Err}
use Rattle.std.specs.Prelude.{IsSome}
use Rattle.std.proofs.lemmas.Bool.{cond-true, cond-false}
use Rattle.std.proofs.lemmas.Bool.Decides.{nat_tests}
use Rattle.std.proofs.lemmas.Option.{none-some, same_Some}
use Rattle.outside.specs.Inputs.{Files, InputState, bytes_of}
use Rattle.outside.specs.Turns.{OpensFirst, OpensInTurn}
use Rattle.traces.specs.Words.{Log, log_of}
use Rattle.line_rules.specs.Rules.{Rule, AreAlike}
use Rattle.model_file.specs.declared.version.Version.{Version}
use Rattle.log_reader.specs.Reading.{Form, Setting, events_of, first_refusal}
use Rattle.log_reader.specs.Reading as form
use Rattle.log_reader.specs.Inputs.{IsLacking, IsRefusedAt, ReadsLog, RefusesLog, first_lacking, inputs_of, lacking, refused_input, told_contents, with_content}
use Rattle.log_reader.specs.declared.refusal.ReadError.{ReadError}
use Rattle.command_line.specs.Task.{Task}
use Rattle.command_line.specs.Task as ask
use Rattle.synoptic_cli.specs.declared.material.Material.{Material}
use Rattle.synoptic_cli.specs.declared.status.Status.TheVariants.{ReadFault}
use Rattle.synoptic_cli.specs.declared.status.Source.TheVariants as sources
use Rattle.synoptic_cli.specs.declared.stages.SoFar as rust
use Rattle.synoptic_cli.specs.Task.{LogFiles, Stage, input_names, log_stage, log_stages}
use Rattle.synoptic_cli.specs.Stages.{SoFar, Stop, and_then, reads, reads_log, setting_by, status_of, stop_after, stop_at, with_log}
use Rattle.synoptic_cli.specs.Endings.{OpensAll, ReadAll, SomeBytes}
use Rattle.synoptic_cli.specs.Halts.{AreAlikeForms, HasRead, Reads, held_form, setting_of}
use Rattle.synoptic_cli.proofs.Bytes.{contents-map}
use Rattle.synoptic_cli.proofs.Through.{StopsReading}

-- how a log is read by rules
abbrev pub by_rules : List Rule → (ignore join : Bool) → Setting
by_rules rules ignore join = record { form = form.Rules rules; ignore = ignore; join = join }

-- the law of rules that are alike
abbrev pub ReadAlike : Type 0
ReadAlike =
    (rs ss : List Rule) (ignore join : Bool) (files : List (List ℕ)) → AreAlike rs ss
    → (first_refusal (by_rules rs ignore join) files ≡ first_refusal (by_rules ss ignore join) files) × (events_of (by_rules rs ignore join) files ≡ events_of (by_rules ss ignore join) files)

-- the two read each log alike
abbrev pub AreReadAlike : Setting → Setting → Type 0
AreReadAlike s t = (files : List (List ℕ)) → (first_refusal s files ≡ first_refusal t files) × (events_of s files ≡ events_of t files)

-- forms that decide lines alike read each log alike
pub alike-forms : ReadAlike → (f g : Form) (ignore join : Bool) → AreAlikeForms f g → AreReadAlike (record { form = f; ignore = ignore; join = join }) (record { form = g; ignore = ignore; join = join })
alike-forms law form.Plain form.Plain ignore join alike = λ files. (refl, refl)
alike-forms law (form.Rules rs) (form.Rules ss) ignore join alike = λ files. law rs ss ignore join files alike
alike-forms law form.Plain (form.Rules ss) ignore join alike = absurd alike
alike-forms law (form.Rules rs) form.Plain ignore join alike = absurd alike

-- ---- a log that is read whole

pub log-value : (so_far : SoFar) (s t : Setting) (count : ℕ) (contents : List (List ℕ)) (log : Log) → AreReadAlike s t → length contents ≡ count → first_refusal s contents ≡ None
    → log ≡ log_of (events_of s contents) → reads_log so_far t count contents ≡ Ok (record { form = so_far.form; material = record { log = log; model = so_far.material.model } })
log-value so_far s t count contents log alike many none value =
    let test : nat_lt (length contents) count ≡ false = grind (arith, nat_tests) in
    ap (with_log so_far t count contents) (sym (alike contents).0 ∙ none)
    ∙ (cond-false _ _ _ test
    ∙ ap (λ (l : Log). let r : Result SoFar Stop = Ok (record { form = so_far.form; material = record { log = l; model = so_far.material.model } }) in r) (sym (value ∙ ap log_of (alike contents).1)))

-- a log has an input, so some were opened
pub log-read : (names : List (List ℕ)) (old new : InputState) (s : Setting) (log : Log) → 0 < length names → ReadsLog s names old new log → ReadAll (length names + 0) old new
log-read names old new s log some read = inl (omega (arith, some), record { opens = omega (arith, read.opened.opens); faults = read.opened.faults }, read.at_end)

-- and they were opened in turn
pub log-turn : (names : List (List ℕ)) (old new : InputState) → 0 < length names → OpensInTurn names old new → OpensAll (names ++ []) old new
log-turn [] old new some turn = absurd (omega (arith, some))
log-turn (name ∷ names) old new some turn = subst (λ (all : List (List ℕ)). OpensAll all old new) (sym (append-nil (name ∷ names))) turn

-- a log that was read whole takes what was read before it to the same with that log
pub log-through : (so_far : SoFar) (s : Setting) (names : List (List ℕ)) (ignore join : Bool) (old new : InputState) (log : Log) → AreReadAlike s (setting_by so_far ignore join)
    → 0 < length names → ReadsLog s names old new log → HasRead (LogFiles names ignore join ∷ []) old new so_far (record { form = so_far.form; material = record { log = log; model = so_far.material.model } })
log-through so_far s names ignore join old new log alike some read =
    let next : SoFar = record { form = so_far.form; material = record { log = log; model = so_far.material.model } } in
    record {
      bytes =
          contents-map old.files names _ (λ contents. reads so_far ((LogFiles names ignore join, contents) ∷ []) ≡ Ok next)
          (λ contents p. ap (λ (r : Result SoFar Stop). and_then r (length names) (λ n. Ok n)) (log-value so_far s (setting_by so_far ignore join) (length names) contents log alike p.0 p.1 p.2)) read.words;
      inputs = log-read names old new s log some read;
      turn = log-turn names old new some read.turn;
    }

-- a task that reads a log has one stage of it, with its files
pub log-stage-is : (task : Task) → IsSome task.form → log_stages task ≡ LogFiles (inputs_of task.files) task.ignore task.join ∷ []
log-stage-is task some = stage-is task.form task.files task.ignore task.join some
  where
    stage-is : (w : Option ask.LineForm) (files : List (List ℕ)) (ignore join : Bool) → IsSome w → log_stage w files ignore join ≡ LogFiles (inputs_of files) ignore join ∷ []
    stage-is None files ignore join some = cc
    stage-is (Some lines) files ignore join some = refl

-- the first inputs of the log are those of its stage
pub log-first : (task : Task) (old new : InputState) → IsSome task.form → OpensFirst (inputs_of task.files) old new → OpensFirst (input_names (log_stages task)) old new
log-first task old new some first =
    let names : input_names (log_stages task) ≡ inputs_of task.files = ap input_names (log-stage-is task some) ∙ append-nil (inputs_of task.files) in
    subst (λ (all : List (List ℕ)). OpensFirst all old new) (sym names) first

-- without any name, the log is that of standard input
pub some-input : (files : List (List ℕ)) → 0 < length (inputs_of files)
some-input [] = omega arith
some-input (name ∷ names) = omega arith

-- a log that was read whole takes what the program holds to the same with that log
pub log-held : ReadAlike → (version : Version) (task : Task) (held : rust.SoFar) (old new : InputState) (log : Log) → IsSome task.form
    → ReadsLog (setting_of task (held_form held)) (inputs_of task.files) old new log
    → Reads version (log_stages task) held old new (record { rules = held.rules; material = record { log = log; model = held.material.model } })
log-held law version task held old new log some read = λ so_far is. (
  record { form = so_far.form; material = record { log = log; model = so_far.material.model } },
  record { form = is.form; material = ap (λ (m : Material). let n : Material = record { log = log; model = m.model } in n) is.material; shaped = is.shaped },
  subst (λ (stages : List Stage). HasRead stages old new so_far (record { form = so_far.form; material = record { log = log; model = so_far.material.model } })) (sym (log-stage-is task some))
      (log-through so_far (setting_of task (held_form held)) (inputs_of task.files) task.ignore task.join old new log (alike-forms law (held_form held) so_far.form task.ignore task.join is.form) (some-input task.files) read),
)

-- ---- a log that is refused

-- what a refusal stops at, over bytes in which reading stops at this input
refused-value : (so_far : SoFar) (t : Setting) (count number : ℕ) (contents : List (List ℕ)) (e : ReadError) → first_refusal t contents ≡ Some e → refused_input e contents ≡ Some number
    → reads_log so_far t count contents ≡ Err (stop_after (number + 1) (status_of e))
refused-value so_far t count number contents e refusal at =
    ap (with_log so_far t count contents) refusal ∙ ap (λ (o : Option ℕ). let r : Result SoFar Stop = Err (stop_at o (status_of e)) in r) at

-- where a log is refused, its stage stops at the input that has the refusal
pub log-stops : (so_far : SoFar) (s : Setting) (names : List (List ℕ)) (ignore join : Bool) (old new : InputState) (e : ReadError) → AreReadAlike s (setting_by so_far ignore join)
    → (refusal : RefusesLog s names old new e) → StopsReading (LogFiles names ignore join ∷ []) old new so_far (stop_after (refusal.number + 1) (status_of e))
log-stops so_far s names ignore join old new e alike refusal =
    let t = setting_by so_far ignore join in
    let number = refusal.number in
    record {
      bytes =
          contents-map old.files names (IsRefusedAt s e number) (λ contents. reads so_far ((LogFiles names ignore join, contents) ∷ []) ≡ Err (stop_after (number + 1) (status_of e)))
          (λ contents p. ap (λ (r : Result SoFar Stop). and_then r (length names) (λ n. Ok n)) (refused-value so_far t (length names) number contents e (sym (alike contents).0 ∙ p.0) p.1)) refusal.refusal;
      opened = inl (omega arith, refusal.opened);
    }

-- ---- a log of which a file is not there

next-lacks : (o : Option (List ℕ)) (contents : List (List ℕ)) (later : Option ℕ) (most number : ℕ) → ((n : ℕ) → later ≡ Some n → (length contents ≡ n) × (n < most)) → lacking o later ≡ Some number
    → (length (with_content o contents) ≡ number) × (number < suc most)
next-lacks None contents later most number step is = let z : 0 ≡ number = same_Some 0 number is in (z, omega (arith, z))
next-lacks (Some bytes) contents None most number step is = absurd (none-some number is)
next-lacks (Some bytes) contents (Some n) most number step is =
    let p = step n refl in
    let q : n + 1 ≡ number = same_Some (n + 1) number is in
    (omega (arith, p.0, q), omega (arith, p.1, q))

-- so many files stand before the first that is not there
lacks-after : (files : Files) (names : List (List ℕ)) (number : ℕ) → first_lacking files names ≡ Some number → (length (told_contents files names) ≡ number) × (number < length names)
lacks-after files [] number is = absurd (none-some number is)
lacks-after files (name ∷ names) number is =
    next-lacks (bytes_of files name) (told_contents files names) (first_lacking files names) (length names) number (lacks-after files names) is

lacks-value : (so_far : SoFar) (t : Setting) (count number : ℕ) (contents : List (List ℕ)) → first_refusal t contents ≡ None → length contents ≡ number → number < count
    → reads_log so_far t count contents ≡ Err (stop_after number (ReadFault (sources.Log number)))
lacks-value so_far t count number contents none many below =
    let test : nat_lt (length contents) count ≡ true = grind (arith, nat_tests) in
    ap (with_log so_far t count contents) none
    ∙ (cond-true _ _ _ test ∙ ap (λ (n : ℕ). let r : Result SoFar Stop = Err (stop_after n (ReadFault (sources.Log n))) in r) many)

-- where a file of a log is the first that is not there, and nothing before it is refused, its stage stops before it
pub log-lacks : (so_far : SoFar) (s : Setting) (names : List (List ℕ)) (ignore join : Bool) (told : Option Files) (number : ℕ) → AreReadAlike s (setting_by so_far ignore join)
    → IsLacking s told names number → SomeBytes told (LogFiles names ignore join ∷ []) (λ filled. reads so_far filled ≡ Err (stop_after number (ReadFault (sources.Log number))))
log-lacks so_far s names ignore join None number alike lacks = absurd lacks
log-lacks so_far s names ignore join (Some files) number alike lacks =
    let t = setting_by so_far ignore join in
    let contents = told_contents files names in
    let after = lacks-after files names number lacks.0 in
    ap (λ (r : Result SoFar Stop). and_then r (length names) (λ n. Ok n)) (lacks-value so_far t (length names) number contents (sym (alike contents).0 ∙ lacks.1) after.0 after.1)
