use Rattle.partition_graph.proofs.NextOnes.{target_word_is}
use Rattle.partition_graph.proofs.graph.PartGraph.target_word.Goals as goal

pub returns : goal.returns
returns c =
    let g = c.self.inside in
    target_word_is g.events g.firsts.items g.tables g.used c.args.self.now c.self.invariant c.self.view_is c.args.p c.args.place c.target_word.result c.target_word.ensures
