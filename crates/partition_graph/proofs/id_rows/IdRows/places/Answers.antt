use Rattle.std.proofs.Common.{List, Bool, subst}
use Rattle.bit_rows.specs.Tables.{row_at, is_set}
use Rattle.partition_graph.specs.NeighbourWords.{ArePlaces}
use Rattle.partition_graph.proofs.Places.{places-row}
use Rattle.partition_graph.proofs.id_rows.IdRows.places.Goals as goal

pub returns : goal.returns
returns c =
    subst (λ (rows : List (List Bool)). ArePlaces (is_set (row_at rows c.args.r)) c.word.result) c.self.view_is
    (places-row c.self.inside.rows c.self.inside.filled c.args.r c.word.result c.self.invariant c.requires c.word.ensures)
