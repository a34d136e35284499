use Rattle.std.proofs.Common.{◌≡◌, drop}
use Rattle.std.specs.List.{list_all}
use Rattle.model_file.specs.Rules.{edge_holds}
use Rattle.model_file.specs.Table.{type_at}
use Rattle.model_file.proofs.shape.edges_hold.Given as goal

abbrev pub invariant-edges : goal.invariant-edges
invariant-edges l = list_all (edge_holds (type_at l.table)) (drop l.edge-index l.edges) ≡ list_all (edge_holds (type_at l.table)) l.edges
