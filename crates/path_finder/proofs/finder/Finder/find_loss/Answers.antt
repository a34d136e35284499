use Rattle.std.proofs.Common.{subst₂}
use Rattle.invariants.specs.declared.Invariant.{Invariant}
use Rattle.partition_model.specs.Assignments.{G}
use Rattle.partition_model.specs.Graphs.{Graph, Satisfies, IsLeastViolation, Merged}
use Rattle.path_finder.specs.IdSets.{has_id}
use Rattle.path_finder.proofs.Narrow.{narrowed_least, narrowed_satisfies}
use Rattle.path_finder.proofs.finder.Finder.find_loss.Goals as goal

pub returns-clause-satisfied : goal.returns-clause-satisfied
returns-clause-satisfied g c none =
    let m : Graph = Merged (G c.args.graph.now.traces) c.args.merge.p c.args.merge.q in
    narrowed_satisfies (has_id c.near_loss-near.result) m c.args.inv c.near_loss-near.ensures.keeps
    (subst₂ (λ (x : Graph) (i : Invariant). Satisfies x i) c.new-question.ensures.graph c.new-question.ensures.inv (c.search.ensures.satisfied none))

pub returns-clause-found : goal.returns-clause-found
returns-clause-found g c some =
    let m : Graph = Merged (G c.args.graph.now.traces) c.args.merge.p c.args.merge.q in
    narrowed_least (has_id c.near_loss-near.result) m c.args.inv c.search.new.path.items c.near_loss-near.ensures.keeps
    (subst₂ (λ (x : Graph) (i : Invariant). IsLeastViolation x i c.search.new.path.items) c.new-question.ensures.graph c.new-question.ensures.inv (c.search.ensures.found some))
