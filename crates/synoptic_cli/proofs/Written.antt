-- What stands written, and why a run ends after its command was asked.
use Rattle.std.proofs.Common.{◌≡◌, ℕ, List, Option, None, Some, Result, Ok, Err, refl, sym, subst}
use Rattle.std.specs.Option.{IsSomeAnd}
use Rattle.std.specs.Io.KnownBytes.{Appends}
use Rattle.outside.specs.Counts.{Rose}
use Rattle.outside.specs.Inputs.{InputState}
use Rattle.outside.specs.Sinks.{AppendsFront}
use Rattle.line_rules.specs.Patterns.{PatternsState}
use Rattle.invariants.specs.declared.Kinds.TheVariants.{Three}
use Rattle.models.specs.Models.{typed_words, TypedWords}
use Rattle.made_logs.specs.MadeLogs.{made_log}
use Rattle.command_line.specs.Task.{Task, task_of}
use Rattle.command_line.specs.declared.table.Command.{Command}
use Rattle.command_line.specs.declared.table.Command.TheVariants.{Invariants, Graph, GraphOfModel, Infer, Check, Replay, Paths, Bench, Migrate}
use Rattle.synoptic_cli.specs.declared.answer.Answer.{Answer}
use Rattle.synoptic_cli.specs.declared.answer.NoAnswer.{NoAnswer}
use Rattle.synoptic_cli.specs.declared.answer.NoAnswer.TheVariants as no_answer
use Rattle.synoptic_cli.specs.declared.material.Material.{Material}
use Rattle.synoptic_cli.specs.declared.status.LimitKind.{LimitKind}
use Rattle.synoptic_cli.specs.declared.status.LimitKind.TheVariants as limits
use Rattle.synoptic_cli.specs.declared.status.Status.{Status}
use Rattle.synoptic_cli.specs.declared.status.Status.TheVariants.{Done, NoCheck, NoReplay, Limit, Memory}
use Rattle.synoptic_cli.specs.Task.{input_count, kinds_of, stages_of}
use Rattle.synoptic_cli.specs.Stages.{SoFar, Stop, at_start, reads, stop_after}
use Rattle.synoptic_cli.specs.Commands.{Answers, AnswersBy}
use Rattle.synoptic_cli.specs.Commands.Inference.{PassesLimit}
use Rattle.synoptic_cli.specs.Commands.RunBench.{AnswersOf}
use Rattle.synoptic_cli.specs.Endings.{EndsAfter, EndsOver}
use Rattle.synoptic_cli.specs.Causes.{World, HasAnswer, HasCause, KeepsCount, StopsAfter, StopsAtLimit, WritesAll, WritesPart, world}
use Rattle.synoptic_cli.specs.Halts.{Ends, Gives, IsVerdict, ReadsTask}
use Rattle.synoptic_cli.proofs.Bytes.{bytes-map}
use Rattle.synoptic_cli.proofs.Through.{read-opens}

-- everything was read, and the command answered
task-answered : (task : Task) (old new : World) (m : Material) (a : Answer) → ReadsTask task old.inputs new.inputs m → Answers task m (Ok a) → HasAnswer task a old new
task-answered task old new m a read answers = record {
  ends =
      bytes-map old.inputs.files (stages_of task) (λ filled. reads at_start filled ≡ Ok read.so_far) (λ filled. EndsOver task filled (Ok a))
      (λ filled is. subst (λ (r : Result SoFar Stop). EndsAfter task r (Ok a)) (sym is) (subst (λ (n : Material). Answers task n (Ok a)) (sym read.value) answers)) read.read.bytes;
  read = read.read.inputs;
  turn = read.read.turn;
}

-- a status that comes with a text has that cause
answer-cause : (status : Status) (words : List (List ℕ)) (task : Task) (old new : World) → IsVerdict status → task_of words ≡ Some task → WritesAll status old new task → HasCause status words old new
answer-cause Done words task old new is asks written = (task, asks, written)
answer-cause (NoCheck part) words task old new is asks written = (task, asks, written)
answer-cause (NoReplay part) words task old new is asks written = (task, asks, written)
answer-cause status words task old new is asks written = absurd is

-- a status that comes with a text leaves the count of refused patterns as it was
pub verdict-count : (status : Status) (before after : PatternsState) → IsVerdict status → after.refusals ≡ before.refusals → KeepsCount status before after
verdict-count Done before after is kept = kept
verdict-count (NoCheck part) before after is kept = kept
verdict-count (NoReplay part) before after is kept = kept
verdict-count status before after is kept = absurd is

-- a status that comes with a text is not want of memory
pub verdict-other : (status : Status) → IsVerdict status → status ≡ Memory → ⊥
verdict-other Done is same = cc
verdict-other (NoCheck part) is same = cc
verdict-other (NoReplay part) is same = cc
verdict-other status is same = absurd is

-- an answer that was written whole is the cause of its status
pub written-whole : (task : Task) (words : List (List ℕ)) (old new : World) (m : Material) (a : Answer) → ReadsTask task old.inputs new.inputs m → Answers task m (Ok a) → IsVerdict a.status
    → Appends old.out.written new.out.written a.text → new.out.faults ≡ old.out.faults → task_of words ≡ Some task → HasCause a.status words old new
written-whole task words old new m a read answers verdict appended calm asks =
    answer-cause a.status words task old new verdict asks (record { text = a.text; answer = task-answered task old new m a read answers; written = appended; faults = calm })

-- an answer of which a front was written, with a fault, is the cause of a fault of the output
pub written-in-part : (task : Task) (old new : World) (m : Material) (a : Answer) → ReadsTask task old.inputs new.inputs m → Answers task m (Ok a)
    → AppendsFront old.out a.text new.out → Rose old.out.faults new.out.faults → WritesPart old new task
written-in-part task old new m a read answers front rose = record { whole = a; answer = task-answered task old new m a read answers; written = front; rose = rose }

-- a limit that is given is what the command is to answer
pub limit-given : (task : Task) (m : Material) (why : NoAnswer) (kind : LimitKind) → why ≡ no_answer.Limit kind → Gives (Answers task m) (Err why) → Answers task m (Err kind)
limit-given task m why kind is given = subst (λ (w : NoAnswer). Gives (Answers task m) (Err w)) is given

-- an answer is no limit
no-limit : (kind : LimitKind) (a : Answer) → ◌≡◌ {A = Result Answer LimitKind} (Err kind) (Ok a) → ⊥
no-limit kind a is = cc

-- a limit that inference passes comes after all inputs
passed : (task : Task) (old new : World) (kind : LimitKind) (log : TypedWords) → PassesLimit kind log → StopsAfter (Limit kind) old new task → StopsAtLimit kind old new task
passed task old new limits.Partitions log passes stops = stops
passed task old new limits.Paths log passes stops = stops
passed task old new kind log passes stops = absurd passes

made-passed : (task : Task) (old new : World) (kind : LimitKind) (number : Option ℕ) → IsSomeAnd number (λ n. AnswersOf (made_log n) (Err kind)) → StopsAfter (Limit kind) old new task → StopsAtLimit kind old new task
made-passed task old new kind None answers stops = absurd answers
made-passed task old new kind (Some n) answers stops = passed task old new kind (typed_words Three (made_log n)) answers stops

-- so does each limit that a command stops at
behind : (command : Command) (task : Task) (old new : World) (m : Material) (kind : LimitKind) → AnswersBy command task m (Err kind) → StopsAfter (Limit kind) old new task → StopsAtLimit kind old new task
behind Invariants task old new m kind answers stops = absurd (no-limit kind _ answers.value)
behind Graph task old new m kind answers stops = absurd (no-limit kind _ answers.value)
behind GraphOfModel task old new m kind answers stops = absurd (no-limit kind _ answers.value)
behind Infer task old new m kind answers stops = passed task old new kind (typed_words (kinds_of task) m.log) answers stops
behind Check task old new m kind answers stops = absurd (no-limit kind _ answers.value)
behind Replay task old new m kind answers stops = absurd (no-limit kind _ answers.value)
behind Paths task old new m kind answers stops = passed task old new kind (typed_words (kinds_of task) m.log) answers stops
behind Bench task old new m kind answers stops = made-passed task old new kind task.number answers stops
behind Migrate task old new m kind answers stops = absurd (no-limit kind _ answers.value)

-- where the command stops at a limit, the run ends by that limit
pub limit-ends : (task : Task) (old new : InputState) (before after : PatternsState) (m : Material) (kind : LimitKind) → ReadsTask task old new m → Answers task m (Err kind) → Ends (Limit kind) task old new before after
limit-ends task old new before after m kind read answers = λ words out asks. (
  task,
  asks,
  behind task.command task (world old before out) (world new after out) m kind answers
      (record {
        read = read.read.inputs;
        stops = record {
          stop = stop_after (input_count (stages_of task)) (Limit kind);
          answered = refl;
          ends =
              bytes-map old.files (stages_of task) (λ filled. reads at_start filled ≡ Ok read.so_far) (λ filled. EndsOver task filled (Err (stop_after (input_count (stages_of task)) (Limit kind))))
              (λ filled is.
              subst (λ (r : Result SoFar Stop). EndsAfter task r (Err (stop_after (input_count (stages_of task)) (Limit kind)))) (sym is)
              (kind, subst (λ (n : Material). Answers task n (Err kind)) (sym read.value) answers, refl)) read.read.bytes;
          opened = read-opens (input_count (stages_of task)) old new read.read.inputs;
          silent = refl;
        };
      }),
)
