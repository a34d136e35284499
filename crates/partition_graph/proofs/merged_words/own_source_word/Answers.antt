use Rattle.partition_model.specs.Assignments.{G}
use Rattle.partition_graph.proofs.merged_words.own_source_word.Goals as goal

pub returns : goal.returns
returns c = c.without_id.ensures (λ u. (G c.args.graph.now.traces).edge u c.args.v) c.source_word.ensures
