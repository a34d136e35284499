-- The table of the commands and their answers. Each command has its own file.
use Rattle.std.specs.Prelude.{Result}
use Rattle.command_line.specs.Task.{Task}
use Rattle.command_line.specs.declared.table.Command.{Command}
use Rattle.command_line.specs.declared.table.Command.TheVariants.{Invariants, Graph, GraphOfModel, Infer, Check, Replay, Paths, Bench, Migrate}
use Rattle.synoptic_cli.specs.declared.answer.Answer.{Answer}
use Rattle.synoptic_cli.specs.declared.material.Material.{Material}
use Rattle.synoptic_cli.specs.declared.status.LimitKind.{LimitKind}
use Rattle.synoptic_cli.specs.Task.{kinds_of}
use Rattle.synoptic_cli.specs.Commands.CheckModel as check_model
use Rattle.synoptic_cli.specs.Commands.InferModel as infer_model
use Rattle.synoptic_cli.specs.Commands.MigrateModel as migrate_model
use Rattle.synoptic_cli.specs.Commands.PrintGraph as print_graph
use Rattle.synoptic_cli.specs.Commands.PrintGraphOfModel as print_graph_of_model
use Rattle.synoptic_cli.specs.Commands.PrintInvariants as print_invariants
use Rattle.synoptic_cli.specs.Commands.PrintPaths as print_paths
use Rattle.synoptic_cli.specs.Commands.ReplayModel as replay_model
use Rattle.synoptic_cli.specs.Commands.RunBench as run_bench
pub mod Answered
pub mod CheckModel
pub mod Inference
pub mod InferModel
pub mod MigrateModel
pub mod PrintGraph
pub mod PrintGraphOfModel
pub mod PrintInvariants
pub mod PrintPaths
pub mod ReplayModel
pub mod RunBench
pub mod TypeNames

-- what the command answers for what was read: an answer, or the limit that it stops at
abbrev pub AnswersBy : Command → Task → Material → Result Answer LimitKind → Type 0
AnswersBy Invariants task m r = print_invariants.Answers (kinds_of task) m r
AnswersBy Graph task m r = print_graph.Answers m r
AnswersBy GraphOfModel task m r = print_graph_of_model.Answers m r
AnswersBy Infer task m r = infer_model.Answers (kinds_of task) m r
AnswersBy Check task m r = check_model.Answers m r
AnswersBy Replay task m r = replay_model.Answers m r
AnswersBy Paths task m r = print_paths.Answers (kinds_of task) m r
AnswersBy Bench task m r = run_bench.Answers task.number r
AnswersBy Migrate task m r = migrate_model.Answers m r

-- the same for the task's command
abbrev pub Answers : Task → Material → Result Answer LimitKind → Type 0
Answers task m r = AnswersBy task.command task m r
