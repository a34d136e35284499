use Rattle.partition_graph.proofs.Places.{target_places_are}
use Rattle.partition_graph.proofs.graph.PartGraph.target_places.Goals as goal

pub returns : goal.returns
returns c =
    let g = c.self.inside in
    target_places_are g.events g.firsts.items g.tables g.used c.args.self.now c.self.invariant c.self.view_is c.args.p c.target_places.result c.target_places.ensures
