use Rattle.partition_model.specs.Assignments.{G}
use Rattle.partition_graph.proofs.merged_words.own_target_word.Goals as goal

pub returns : goal.returns
returns c = c.without_id.ensures (λ v. (G c.args.graph.now.traces).edge c.args.u v) c.target_word.ensures
