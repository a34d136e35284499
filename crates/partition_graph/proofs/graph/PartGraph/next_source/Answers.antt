use Rattle.partition_graph.proofs.NextOnes.{next_source_is, source_used}
use Rattle.partition_graph.proofs.graph.PartGraph.next_source.Goals as goal

pub returns-clause-next : goal.returns-clause-next
returns-clause-next c =
    let g = c.self.inside in
    next_source_is g.events g.firsts.items g.tables g.used c.args.self.now c.self.invariant c.self.view_is c.args.q c.args.from c.next_source.result c.next_source.ensures

pub returns-clause-within : goal.returns-clause-within
returns-clause-within c =
    let g = c.self.inside in
    source_used g.events g.firsts.items g.tables g.used c.args.self.now c.self.invariant c.self.view_is c.args.q c.args.from c.next_source.result
    (next_source_is g.events g.firsts.items g.tables g.used c.args.self.now c.self.invariant c.self.view_is c.args.q c.args.from c.next_source.result c.next_source.ensures)
