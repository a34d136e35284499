use Rattle.std.proofs.Common.{ℕ, List, sym, subst, subst₂, refl, rules}
use Rattle.invariants.specs.declared.Invariant.{Invariant}
use Rattle.partition_graph.specs.Seen.{seen}
use Rattle.partition_model.specs.Graphs.{Graph, Satisfies, IsLeastViolation}
use Rattle.path_finder.specs.IdSets.{has_id}
use Rattle.path_finder.proofs.Narrow.{avoids_gone, narrowed_least, narrowed_satisfies}
use Rattle.path_finder.proofs.finder.Finder.least_violation.Goals as goal

pub returns-then-not-search : goal.returns-then-not-search
returns-then-not-search g c = record {
  found = narrowed_satisfies (has_id c.find_near-near.result) (seen c.args.view.now) c.args.inv c.find_near-near.ensures
      (subst₂ (λ (x : Graph) (i : Invariant). Satisfies x i) c.new-question.ensures.graph c.new-question.ensures.inv (c.if-not-search.ensures.satisfied refl));
  short = tt;
  avoids = tt;
  counted = search rules;
}

pub returns : goal.returns
returns g c =
    let l : IsLeastViolation (seen c.args.view.now) c.args.inv c.deref.result.now =
    subst (λ (p : List ℕ). IsLeastViolation (seen c.args.view.now) c.args.inv p) (sym c.deref.ensures.value)
    (narrowed_least (has_id c.find_near-near.result) (seen c.args.view.now) c.args.inv c.search.new.path.items c.find_near-near.ensures
    (subst₂ (λ (x : Graph) (i : Invariant). IsLeastViolation x i c.search.new.path.items) c.new-question.ensures.graph c.new-question.ensures.inv (c.if-not-search.ensures.found refl))) in
    record {
      found = l;
      short = search rules;
      avoids = avoids_gone c.args.view.now c.requires c.deref.result.now l.breaks.0;
      counted = search rules;
    }
