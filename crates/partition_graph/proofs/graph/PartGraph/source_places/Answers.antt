use Rattle.partition_graph.proofs.Places.{source_places_are}
use Rattle.partition_graph.proofs.graph.PartGraph.source_places.Goals as goal

pub returns : goal.returns
returns c =
    let g = c.self.inside in
    source_places_are g.events g.firsts.items g.tables g.used c.args.self.now c.self.invariant c.self.view_is c.args.q c.source_places.result c.source_places.ensures
