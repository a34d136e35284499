use Rattle.std.proofs.Common.{◌≡◌, take}
use Rattle.reports.specs.Reports.{graph_report}
use Rattle.reports.proofs.graph.graph_report.Given as goal

abbrev pub invariant-loop-edge : goal.invariant-loop-edge
invariant-loop-edge l = l.text.items ≡ graph_report l.types l.partitions (take l.edge-index l.edges)
