use Rattle.partition_graph.proofs.NextOnes.{next_target_is, target_used}
use Rattle.partition_graph.proofs.graph.PartGraph.next_target.Goals as goal

pub returns-clause-next : goal.returns-clause-next
returns-clause-next c =
    let g = c.self.inside in
    next_target_is g.events g.firsts.items g.tables g.used c.args.self.now c.self.invariant c.self.view_is c.args.p c.args.from c.next_target.result c.next_target.ensures

pub returns-clause-within : goal.returns-clause-within
returns-clause-within c =
    let g = c.self.inside in
    target_used g.events g.firsts.items g.tables g.used c.args.self.now c.self.invariant c.self.view_is c.args.p c.args.from c.next_target.result
    (next_target_is g.events g.firsts.items g.tables g.used c.args.self.now c.self.invariant c.self.view_is c.args.p c.args.from c.next_target.result c.next_target.ensures)
