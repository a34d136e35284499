use Rattle.std.proofs.Common.{subst, sym}
use Rattle.command_line.specs.Task.{task_held}
use Rattle.command_line.specs.declared.table.Command.{Command}
use Rattle.invariants.specs.declared.Kinds.{Kinds}
use Rattle.synoptic_cli.specs.Commands.{AnswersBy}
use Rattle.synoptic_cli.specs.Commands.InferModel as infer_model
use Rattle.synoptic_cli.specs.Commands.PrintInvariants as print_invariants
use Rattle.synoptic_cli.specs.Commands.PrintPaths as print_paths
use Rattle.synoptic_cli.specs.Halts.{FitsVersion, Gives}
use Rattle.synoptic_cli.specs.Task.{version_of}
use Rattle.synoptic_cli.proofs.commands.answer.Goals as goal

pub returns-in-Invariants : goal.returns-in-Invariants
returns-in-Invariants c =
    subst (λ (command : Command). Gives (AnswersBy command (task_held c.args.task.now) c.args.material) c.answer.result) (sym c.in-Invariants.is)
    (subst (λ (kinds : Kinds). Gives (print_invariants.Answers kinds c.args.material) c.answer.result) c.kinds_of.ensures c.answer.ensures)

pub returns-in-Graph : goal.returns-in-Graph
returns-in-Graph c =
    subst (λ (command : Command). Gives (AnswersBy command (task_held c.args.task.now) c.args.material) c.answer-in-Graph.result) (sym c.in-Graph.is) c.answer-in-Graph.ensures

pub returns-in-GraphOfModel : goal.returns-in-GraphOfModel
returns-in-GraphOfModel c =
    subst (λ (command : Command). Gives (AnswersBy command (task_held c.args.task.now) c.args.material) c.answer-in-GraphOfModel.result) (sym c.in-GraphOfModel.is) c.answer-in-GraphOfModel.ensures

pub returns-in-Infer : goal.returns-in-Infer
returns-in-Infer c =
    subst (λ (command : Command). Gives (AnswersBy command (task_held c.args.task.now) c.args.material) c.answer-in-Infer.result) (sym c.in-Infer.is)
    (subst (λ (kinds : Kinds). Gives (infer_model.Answers kinds c.args.material) c.answer-in-Infer.result) c.kinds_of-in-Infer.ensures c.answer-in-Infer.ensures)

pub returns-in-Paths : goal.returns-in-Paths
returns-in-Paths c =
    subst (λ (command : Command). Gives (AnswersBy command (task_held c.args.task.now) c.args.material) c.answer-in-Paths.result) (sym c.in-Paths.is)
    (subst (λ (kinds : Kinds). Gives (print_paths.Answers kinds c.args.material) c.answer-in-Paths.result) c.kinds_of-in-Paths.ensures c.answer-in-Paths.ensures)

pub returns-in-Check : goal.returns-in-Check
returns-in-Check c =
    subst (λ (command : Command). Gives (AnswersBy command (task_held c.args.task.now) c.args.material) c.answer-in-Check.result) (sym c.in-Check.is) c.answer-in-Check.ensures

pub returns-in-Replay : goal.returns-in-Replay
returns-in-Replay c =
    subst (λ (command : Command). Gives (AnswersBy command (task_held c.args.task.now) c.args.material) c.answer-in-Replay.result) (sym c.in-Replay.is) c.answer-in-Replay.ensures

pub returns-in-Bench : goal.returns-in-Bench
returns-in-Bench c =
    subst (λ (command : Command). Gives (AnswersBy command (task_held c.args.task.now) c.args.material) c.answer-in-Bench.result) (sym c.in-Bench.is) c.answer-in-Bench.ensures

pub returns-in-Migrate : goal.returns-in-Migrate
returns-in-Migrate c =
    subst (λ (command : Command). Gives (AnswersBy command (task_held c.args.task.now) c.args.material) c.answer-in-Migrate.result) (sym c.in-Migrate.is) c.answer-in-Migrate.ensures

pub answer-requires-in-Check : goal.answer-requires-in-Check
answer-requires-in-Check c = subst (λ (command : Command). FitsVersion (version_of command) c.args.material.model) c.in-Check.is c.requires.shaped

pub answer-requires-in-Replay : goal.answer-requires-in-Replay
answer-requires-in-Replay c = subst (λ (command : Command). FitsVersion (version_of command) c.args.material.model) c.in-Replay.is c.requires.shaped

pub answer-requires-in-Migrate-clause-shaped : goal.answer-requires-in-Migrate-clause-shaped
answer-requires-in-Migrate-clause-shaped c = (subst (λ (command : Command). FitsVersion (version_of command) c.args.material.model) c.in-Migrate.is c.requires.shaped).0

pub answer-requires-in-Migrate-clause-former : goal.answer-requires-in-Migrate-clause-former
answer-requires-in-Migrate-clause-former c = (subst (λ (command : Command). FitsVersion (version_of command) c.args.material.model) c.in-Migrate.is c.requires.shaped).1

pub answer-requires-in-Bench : goal.answer-requires-in-Bench
answer-requires-in-Bench c = c.requires.sessions c.in-Bench.is
