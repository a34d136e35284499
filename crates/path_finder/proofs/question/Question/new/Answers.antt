use Rattle.std.proofs.Common.{refl}
use Rattle.partition_graph.specs.Seen.{seen}
use Rattle.path_finder.specs.IdSets.{has_id}
use Rattle.path_finder.proofs.Narrow.{narrowed_edge}
use Rattle.path_finder.proofs.question.Question.new.Goals as goal

pub invariant_of-result : goal.invariant_of-result
invariant_of-result c = record {
  two = c.ids_used.ensures.two;
  few = c.ids_used.ensures.limit;
  within = λ p q edge. c.ids_used.ensures.within c.args.sight.now.sound p q (narrowed_edge (has_id c.args.near.now) (seen c.args.sight.now.view) p q edge).2;
}

pub returns-clause-graph : goal.returns-clause-graph
returns-clause-graph c = refl

pub returns-clause-inv : goal.returns-clause-inv
returns-clause-inv c = refl
