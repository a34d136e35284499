-- Two runs over the same files have one answer.
use Rattle.std.proofs.Common.{◌≡◌, ℕ, List, Option, Some, Result, Ok, sym, ap, ◌∙◌, subst}
use Rattle.std.specs.Io.KnownBytes.{Appends}
use Rattle.outside.specs.Inputs.{Files}
use Rattle.command_line.specs.Task.{Task}
use Rattle.synoptic_cli.specs.Causes.{World}
use Rattle.synoptic_cli.specs.Endings.{SomeBytes, told_stages}
use Rattle.synoptic_cli.specs.Stages.{Filled, SoFar, Stop, at_start, reads, setting_by}
use Rattle.synoptic_cli.specs.Task.{stages_of}
use Rattle.synoptic_cli.proofs.Bytes.{bytes-told}
use Rattle.events_cli.specs.declared.answer.Answer.{Answer}
use Rattle.events_cli.specs.declared.ending.Ending.{Ending}
use Rattle.events_cli.specs.declared.ending.Ending.TheVariants as endings
use Rattle.events_cli.specs.declared.mode.Mode.{Mode}
use Rattle.events_cli.specs.Answers.{answer, log_answer}
use Rattle.events_cli.specs.Causes.{HasCause, IsAnswer, WritesAll, log_bytes}
use Rattle.events_cli.specs.Runs.{AreAlike, RunsAreAlike}
use Rattle.events_cli.specs.Steps.{IsGiven}
use Rattle.events_cli.specs.Words.{IsAsked, mode_of, task_for}

one-read : (r : Result SoFar Stop) (s t : SoFar) → r ≡ Ok s → r ≡ Ok t → s ≡ t
one-read r s t p q = let same : ◌≡◌ {A = Result SoFar Stop} (Ok s) (Ok t) = sym p ∙ q in cc

-- bytes have one answer
one-answer : (mode : Mode) (task : Task) (a b : Answer) (filled : List Filled) → IsAnswer mode task a filled → IsAnswer mode task b filled → a ≡ b
one-answer mode task a b filled p q =
    p.is
    ∙ (ap (λ (s : SoFar). log_answer mode task (setting_by s task.ignore task.join) (log_bytes filled)) (one-read (reads at_start filled) p.so_far q.so_far p.read q.read)
    ∙ sym q.is)

-- where files are known, their bytes have it
told-answer : (mode : Mode) (task : Task) (a : Answer) (files : Files) (inputs : Option Files) → inputs ≡ Some files → SomeBytes inputs (stages_of task) (IsAnswer mode task a)
    → IsAnswer mode task a (told_stages files (stages_of task))
told-answer mode task a files inputs are some =
    bytes-told files (stages_of task) (IsAnswer mode task a) (subst (λ (known : Option Files). SomeBytes known (stages_of task) (IsAnswer mode task a)) are some)

-- a run that ends with an answer writes it
given-writes : (end : Ending) (words : List (List ℕ)) (old new : World) → IsGiven end → HasCause end words old new → IsAsked words (WritesAll (mode_of words) end old new)
given-writes endings.Done words old new given cause = cause
given-writes (endings.Undecided count) words old new given cause = cause
given-writes (endings.NoPlain fault) words old new given cause = cause
given-writes endings.WriteFault words old new given cause = absurd given
given-writes (endings.Refused status) words old new given cause = absurd given

one-task : (asked : Option Task) (s t : Task) → asked ≡ Some s → asked ≡ Some t → s ≡ t
one-task asked s t p q = let same : Some s ≡ Some t = sym p ∙ q in cc

both-write : (mode : Mode) (task : Task) (files : Files) (one other : Ending) (old new before after : World) → old.inputs.files ≡ Some files → before.inputs.files ≡ Some files
    → WritesAll mode one old new task → WritesAll mode other before after task → AreAlike one other old new before after
both-write mode task files one other old new before after first second p q =
    let same : answer one p.text ≡ answer other q.text =
    one-answer mode task (answer one p.text) (answer other q.text) (told_stages files (stages_of task))
    (told-answer mode task (answer one p.text) files old.inputs.files first p.has.ends)
    (told-answer mode task (answer other q.text) files before.inputs.files second q.has.ends) in
    let text : p.text ≡ q.text = ap (λ (a : Answer). a.text) same in
    record {
      ending = ap (λ (a : Answer). a.ending) same;
      text = p.text;
      first = p.written;
      second = subst (λ (t : List ℕ). Appends before.out.written after.out.written t) (sym text) q.written;
    }

-- two runs over the same files are alike
pub runs-are-alike : RunsAreAlike
runs-are-alike words files one other old new before after first second is_given is_other cause too =
    let p = given-writes one words old new is_given cause in
    let q = given-writes other words before after is_other too in
    both-write (mode_of words) p.0 files one other old new before after first second p.2
    (subst (λ (task : Task). WritesAll (mode_of words) other before after task) (sym (one-task (task_for words) p.0 q.0 p.1 q.1)) q.2)
