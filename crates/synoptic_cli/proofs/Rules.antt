-- The file of rules: what was read of it, and how a run ends by its refusal.
use Rattle.std.proofs.Common.{◌≡◌, ◌≢◌, ℕ, ◌+◌, ◌<◌, ◌≤◌, ◌⊎◌, List, [], ◌∷◌, ◌++◌, length, take, drop, take-append-drop, nat_lt, true, sym, ap, ◌∙◌, subst, ⊎_elim, inl, inr, arith, Option, Some, None, Result, Ok, Err, IsTrue, take_all, length-take, refl}
use Rattle.std.proofs.lemmas.Bool.{cond-true, cases_lt}
use Rattle.std.proofs.lemmas.Bool.Decides.{nat_tests}
use Rattle.std.specs.Option.{IsSomeAnd, option_map_or}
use Rattle.outside.specs.Inputs.{Files, InputState, Lacks}
use Rattle.std.specs.Io.KnownBytes.{Consumes}
use Rattle.outside.specs.Reading.{IfTold, InputGives, LosesFront, OpensNamed, OpensNone, ReadsInput}
use Rattle.outside.specs.declared.reading.InputError.{InputError}
use Rattle.outside.specs.declared.reading.InputError.TheVariants as input_error
use Rattle.line_rules.specs.Rules.{Rule, AreAlike}
use Rattle.line_rules.specs.Views.{rules_in}
use Rattle.line_rules.specs.declared.line_rules.LineRules.{LineRules}
use Rattle.line_rules.specs.Patterns.{PatternsState, NestsTooDeep}
use Rattle.line_rules.specs.Files.{rules_of, AreRead, IsBuilt, IsRefused}
use Rattle.line_rules.specs.declared.line_rules.RuleError.{RuleError}
use Rattle.line_rules.specs.declared.line_rules.RuleError.TheVariants as refused
use Rattle.model_file.specs.declared.version.Version.{Version}
use Rattle.log_reader.specs.Inputs.{with_content}
use Rattle.log_reader.specs.Reading as form
use Rattle.command_line.specs.Task.{Task}
use Rattle.synoptic_cli.specs.Task.{file_stage, input_count, log_stages, model_stages, rules_name, RulesFile, stages_of}
use Rattle.synoptic_cli.specs.Stages.{SoFar, and_then, at_start, reads, reads_rules, stop_after, with_rules}
use Rattle.synoptic_cli.specs.Endings.{IsFirstLacking, IsTold, told_stages}
use Rattle.synoptic_cli.specs.Causes.{LeavesOpen, RefusesRules, StopsAnywhere, StopsSomewhere, world}
use Rattle.synoptic_cli.specs.declared.status.Status.TheVariants.{Expressions, Memory, ReadFault}
use Rattle.synoptic_cli.specs.declared.status.Source.TheVariants as sources
use Rattle.synoptic_cli.specs.declared.stages.SoFar as rust
use Rattle.synoptic_cli.specs.Halts.{rules_answer, Ends, EndsByRules, HasRead, IsOfRules, Reads, ReadsRules}
use Rattle.synoptic_cli.proofs.Bytes.{contents-one}

too-long : (bytes : List ℕ) → 65536 < length bytes → rules_of bytes ≡ Err refused.TooLong
too-long bytes over =
    let test : nat_lt 65536 (length bytes) ≡ true = grind (arith, nat_tests) in
    cond-true _ _ _ test

-- the bytes are all, or both are too long
pub whole-or-long : (limit : ℕ) (content bytes : List ℕ) → bytes ≡ take (limit + 1) content → (bytes ≡ content) ⊎ ((limit < length bytes) × (limit < length content))
whole-or-long limit content bytes same =
    ⊎_elim
    (λ (over : limit < length content). inr (omega (arith, ap length same, length-take (limit + 1) content), over))
    (λ (short : length content ≤ limit). inl (same ∙ take_all (limit + 1) content (omega arith)))
    (cases_lt limit (length content))

rules-same : (content bytes : List ℕ) → bytes ≡ take 65537 content → rules_of bytes ≡ rules_of content
rules-same content bytes same =
    ⊎_elim (λ (whole : bytes ≡ content). ap rules_of whole) (λ (long : (65536 < length bytes) × (65536 < length content)). too-long bytes long.0 ∙ sym (too-long content long.1)) (whole-or-long 65536 content bytes same)

-- a part of what holds of a told file
pub told-part : (files : Option Files) (name : List ℕ) (P Q : List ℕ → Type 0) → IfTold files name (λ content. P content × Q content) → IfTold files name Q
told-part None name P Q told = tt
told-part (Some fs) name P Q told = (told.0, told.1, told.2.1)

-- P holds of the bytes of a file, where it does of those that were read of it
pub told-bytes : (limit : ℕ) (files : Option Files) (name bytes : List ℕ) (P : List ℕ → Type 0) (Q : List ℕ → Type 0) → IfTold files name (λ content. (bytes ≡ take (limit + 1) content) × Q content)
    → ((content : List ℕ) → bytes ≡ take (limit + 1) content → P content) → P bytes → (content : List ℕ) × IsTold files name content × P content
told-bytes limit None name bytes P Q told step here = (bytes, tt, here)
told-bytes limit (Some fs) name bytes P Q told step here = (told.0, told.1, step told.0 told.2.0)

-- a file that was read so was read to its end
short-read : (bytes : List ℕ) (rules : List Rule) → rules_of bytes ≡ Ok rules → length bytes ≤ 65536
short-read bytes rules read =
    ⊎_elim
    (λ (over : 65536 < length bytes). let e : rules_of bytes ≡ Err refused.TooLong = too-long bytes over in cc)
    (λ (short : length bytes ≤ 65536). short)
    (cases_lt 65536 (length bytes))

-- rules that are read of a file, up to one byte past its limit, are like those of the whole file
pub rules-read : (old new : InputState) (name bytes : List ℕ) (rules : List Rule) → ReadsInput old new name 65536 bytes → AreRead bytes rules → ReadsRules old new name rules
rules-read old new name bytes rules reads read =
    let found = told-bytes 65536 old.files name bytes (λ content. rules_of content ≡ Ok read.0) _ reads.told (λ content same. sym (rules-same content bytes same) ∙ read.1) read.1 in
    record {
      bytes = found.0;
      told = found.1;
      plain = read.0;
      read = found.2;
      alike = read.2;
      opened = inl (omega arith, record { opens = reads.opens; faults = reads.faults }, reads.at_end (short-read bytes read.0 read.1));
      turn = reads.turn;
    }

-- a file that is too long has no other refusal
long-refused : (content bytes : List ℕ) (old new : PatternsState) (e : RuleError) → 65536 < length bytes → rules_of bytes ≡ rules_of content → IsRefused bytes old new e → IsRefused content old new e
long-refused content bytes old new (refused.Syntax number) over same refusal =
    ⊎_elim
    (λ (plain : rules_of bytes ≡ Err (refused.Syntax number)). inl (sym same ∙ plain))
    (λ (deep : (pattern : List ℕ) × IsBuilt bytes number pattern × NestsTooDeep pattern). absurd (omega (arith, deep.1.short)))
    refusal
long-refused content bytes old new (refused.TooLarge number) over same refusal = absurd (omega (arith, refusal.1.1.short))
long-refused content bytes old new refused.Memory over same refusal = tt
long-refused content bytes old new e over same refusal = sym same ∙ refusal

-- the refusal of what was read is that of the file
pub refused-whole : (content bytes : List ℕ) (old new : PatternsState) (e : RuleError) → bytes ≡ take 65537 content → IsRefused bytes old new e → IsRefused content old new e
refused-whole content bytes old new e same refusal =
    ⊎_elim (λ (whole : bytes ≡ content). subst (λ b. IsRefused b old new e) whole refusal)
    (λ (long : (65536 < length bytes) × (65536 < length content)). long-refused content bytes old new e long.0 (too-long bytes long.0 ∙ sym (too-long content long.1)) refusal) (whole-or-long 65536 content bytes same)

-- the run ends by the refusal of its file of rules
rules-refused : (old new : InputState) (before after : PatternsState) (name bytes : List ℕ) (e : RuleError) → ReadsInput old new name 65536 bytes → e ≢ refused.Memory
    → IsRefused bytes before after e → EndsByRules (Expressions e) name old new before after
rules-refused old new before after name bytes e reads other refusal =
    let found = told-bytes 65536 old.files name bytes (λ content. IsRefused content before after e) _ reads.told (λ content same. refused-whole content bytes before after e same refusal) refusal in
    λ task is words out asks. (
      task,
      asks,
      subst (λ (w : Option (List ℕ)). IsSomeAnd w (RefusesRules e (world old before out) (world new after out))) (sym is)
          (record { bytes = found.0; told = found.1; refusal = found.2; not_memory = other; opened = record { opens = reads.opens; faults = reads.faults }; stops = told-part old.files name _ _ reads.told; silent = refl }),
    )

-- memory was wanted, with no more inputs opened than there are, and the last of them known
pub memory-ends : (task : Task) (old new : InputState) (before after : PatternsState) → new.opens ≤ old.opens + input_count (stages_of task) → StopsAnywhere task old new → Ends Memory task old new before after
memory-ends task old new before after few stops = λ words out asks. record {
  opens = subst (λ (asked : Option Task). new.opens ≤ old.opens + option_map_or (λ t. input_count (stages_of t)) asked 0) (sym asks) few;
  stops = subst (λ (asked : Option Task). StopsSomewhere asked old new) (sym asks) stops;
  silent = refl;
}

-- memory was wanted before any call of the inputs
pub memory-first : (task : Task) (old : InputState) (before : PatternsState) → Ends Memory task old old before before
memory-first task old before = memory-ends task old old before before (omega arith) (inl (0, omega arith, inr (refl, refl)))

-- a file of which a front was read is open, and has left what stands behind it
told-left : (files : Option Files) (name bytes : List ℕ) (limit : ℕ) (rest : Option (List ℕ)) → IfTold files name (λ content. (bytes ≡ take (limit + 1) content) × (rest ≡ Some (drop (limit + 1) content)))
    → IfTold files name (λ content. LosesFront (Some content) rest limit)
told-left None name bytes limit rest told = tt
told-left (Some fs) name bytes limit rest told =
    let content = told.0 in
    let front = take (limit + 1) content in
    (content, told.1, (front, omega (arith, length-take (limit + 1) content), subst (λ (r : Option (List ℕ)). Consumes (Some content) r front) (sym told.2.1) (sym (take-append-drop (limit + 1) content))))

pub reads-open : (old new : InputState) (name : List ℕ) (limit : ℕ) (bytes : List ℕ) → ReadsInput old new name limit bytes → OpensNamed old new name limit
reads-open old new name limit bytes reads = record { opens = reads.opens; mark = reads.mark; left = told-left old.files name bytes limit new.rest reads.told }

-- the file of rules is one input of its task
one-input : (task : Task) (name : List ℕ) → rules_name task.form ≡ Some name → 1 ≤ input_count (stages_of task)
one-input task name is =
    subst (λ (w : Option (List ℕ)). 1 ≤ input_count ((file_stage RulesFile w ++ model_stages task) ++ log_stages task)) (sym is) (omega arith)

-- the file of rules is open
rules-open : (task : Task) (old new : InputState) (name : List ℕ) → rules_name task.form ≡ Some name → OpensNamed old new name 65536 → IsSomeAnd (rules_name task.form) (LeavesOpen task sources.Expressions old new)
rules-open task old new name is named =
    let here : LeavesOpen task sources.Expressions old new name = record { opens = named.opens; mark = named.mark; room = 65536; is_room = refl; left = named.left } in
    subst (λ (w : Option (List ℕ)). IsSomeAnd w (LeavesOpen task sources.Expressions old new)) (sym is) here

-- where memory was wanted at the file of rules, each task with this file ends by that
pub memory-by-rules : (old new : InputState) (before after : PatternsState) (name : List ℕ) → OpensNamed old new name 65536 → EndsByRules Memory name old new before after
memory-by-rules old new before after name named = λ task is.
    memory-ends task old new before after (omega (arith, named.opens, one-input task name is)) (inr (sources.Expressions, rules-open task old new name is named))

-- the same by the answer of what read the file
pub memory-given : (old new : InputState) (before after : PatternsState) (name : List ℕ) (e : InputError) → e ≡ input_error.Memory → InputGives old name 65536 (Err e) new → EndsByRules Memory name old new before after
memory-given old new before after name e is gives =
    let wants : InputGives old name 65536 (Err input_error.Memory) new = subst (λ (x : InputError). InputGives old name 65536 (Err x) new) is gives in
    memory-by-rules old new before after name wants.0

-- where the file of rules could not be read, each task with this file ends by that
fault-by-rules : (old new : InputState) (before : PatternsState) (name : List ℕ) → InputGives old name 65536 (Err input_error.Fault) new → EndsByRules (ReadFault sources.Expressions) name old new before before
fault-by-rules old new before name gives = λ task is words out asks. (
  task,
  asks,
  record {
    why =
        inl (record {
          rose = gives.0;
          may_fail = subst (λ (w : Option (List ℕ)). IsSomeAnd w (λ n. IsTrue (old.may_fail n))) (sym is) gives.1;
          room = 65536;
          is_room = refl;
          opened =
              ⊎_elim
              (λ (none : OpensNone old new). inl (record { opens = none.opens; closed = none.closed }))
              (λ (named : OpensNamed old new name 65536). inr (rules-open task old new name is named))
              gives.2;
        });
    silent = refl;
  },
)

-- the same by the answer of what read the file
pub fault-given : (old new : InputState) (before : PatternsState) (name : List ℕ) (e : InputError) → e ≡ input_error.Fault → InputGives old name 65536 (Err e) new → EndsByRules (ReadFault sources.Expressions) name old new before before
fault-given old new before name e is gives =
    let fault : InputGives old name 65536 (Err input_error.Fault) new = subst (λ (x : InputError). InputGives old name 65536 (Err x) new) is gives in
    fault-by-rules old new before name fault

-- a file of rules that is not there is the first
rules-lack : (told : Option Files) (task : Task) (name : List ℕ) → rules_name task.form ≡ Some name → Lacks told name → IsFirstLacking told task sources.Expressions
rules-lack None task name is lacks = absurd lacks
rules-lack (Some files) task name is lacks = (
  0,
  subst (λ (w : Option (List ℕ)). reads at_start (told_stages files ((file_stage RulesFile w ++ model_stages task) ++ log_stages task)) ≡ Err (stop_after 0 (ReadFault sources.Expressions))) (sym is)
      (ap (λ (o : Option (List ℕ)). and_then (reads_rules at_start (with_content o [])) 1 (λ next. reads next (told_stages files (model_stages task ++ log_stages task)))) lacks),
)

-- where the file of rules is not there, each task with this file ends by that
missing-by-rules : (old new : InputState) (before : PatternsState) (name : List ℕ) → InputGives old name 65536 (Err input_error.Missing) new → EndsByRules (ReadFault sources.Expressions) name old new before before
missing-by-rules old new before name gives = λ task is words out asks. (
  task,
  asks,
  record {
    why =
        inr (record {
          lacking = rules-lack old.files task name is gives.0;
          opened = record { opens = gives.1.opens; closed = gives.1.closed };
          faults = gives.2;
        });
    silent = refl;
  },
)

-- the same by the answer of what read the file
pub missing-given : (old new : InputState) (before : PatternsState) (name : List ℕ) (e : InputError) → e ≡ input_error.Missing → InputGives old name 65536 (Err e) new → EndsByRules (ReadFault sources.Expressions) name old new before before
missing-given old new before name e is gives =
    let missing : InputGives old name 65536 (Err input_error.Missing) new = subst (λ (x : InputError). InputGives old name 65536 (Err x) new) is gives in
    missing-by-rules old new before name missing

-- each task with this file of rules ends by its refusal, want of memory among the refusals
pub rules-end : (old new : InputState) (before after : PatternsState) (name bytes : List ℕ) (e : RuleError) → ReadsInput old new name 65536 bytes → IsRefused bytes before after e
    → EndsByRules (rules_answer e) name old new before after
rules-end old new before after name bytes refused.Memory reads refusal = memory-by-rules old new before after name (reads-open old new name 65536 bytes reads)
rules-end old new before after name bytes e reads refusal = rules-refused old new before after name bytes e reads (λ same. cc) refusal

-- each refusal of a file of rules has a status of its own
pub rules-status : (e : RuleError) → IsOfRules (rules_answer e)
rules-status refused.Memory = tt
rules-status e = tt

-- ---- the stage of the rules

-- the rules that were read take what was read before to what is read now
rules-through : (old new : InputState) (name : List ℕ) (rules : List Rule) (so_far : SoFar) → ReadsRules old new name rules
    → (plain : List Rule) × AreAlike rules plain × HasRead (RulesFile name ∷ []) old new so_far (record { form = form.Rules plain; material = so_far.material })
rules-through old new name rules so_far read = (
  read.plain,
  read.alike,
  record {
    bytes =
        contents-one old.files name read.bytes (λ contents. reads so_far ((RulesFile name, contents) ∷ []) ≡ Ok (record { form = form.Rules read.plain; material = so_far.material })) read.told
        (ap (λ (r : Result (List Rule) RuleError). and_then (with_rules so_far r) 1 (λ next. Ok next)) read.read);
    inputs = read.opened;
    turn = read.turn;
  },
)

-- the rules of a file take what the program holds to the same with these rules
pub rules-held : (version : Version) (held : rust.SoFar) (old new : InputState) (name : List ℕ) (rules : LineRules) → ReadsRules old new name (rules_in rules)
    → Reads version (RulesFile name ∷ []) held old new (record { rules = Some rules; material = held.material })
rules-held version held old new name rules read = λ so_far is.
    let through = rules-through old new name (rules_in rules) so_far read in
    (record { form = form.Rules through.0; material = so_far.material }, record { form = through.1; material = is.material; shaped = is.shaped }, through.2)
