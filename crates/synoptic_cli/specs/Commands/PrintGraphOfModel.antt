-- `graph` with a model's file: the graph of that model.
use Rattle.std.specs.Prelude.{◌≡◌, Result, Ok}
use Rattle.reports.specs.Reports.{graph_report}
use Rattle.synoptic_cli.specs.declared.answer.Answer.{Answer}
use Rattle.synoptic_cli.specs.declared.material.Material.{Material}
use Rattle.synoptic_cli.specs.declared.status.LimitKind.{LimitKind}
use Rattle.synoptic_cli.specs.Commands.Answered.{done}

-- the answer: the edges in the file, one per line, with its types and the counts of its partitions
pub record Answers (m : Material) (r : Result Answer LimitKind) : Type 0 where
  pub value : r ≡ Ok (done (graph_report m.model.types m.model.partitions m.model.edges))
