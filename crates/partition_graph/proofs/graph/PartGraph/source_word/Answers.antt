use Rattle.partition_graph.proofs.NextOnes.{source_word_is}
use Rattle.partition_graph.proofs.graph.PartGraph.source_word.Goals as goal

pub returns : goal.returns
returns c =
    let g = c.self.inside in
    source_word_is g.events g.firsts.items g.tables g.used c.args.self.now c.self.invariant c.self.view_is c.args.q c.args.place c.source_word.result c.source_word.ensures
