use Rattle.std.proofs.Common.{◌<◌, ℕ, List, sym, subst, subst₂, refl, rules, arith}
use Rattle.invariants.specs.declared.Invariant.{Invariant}
use Rattle.partition_model.specs.Assignments.{G}
use Rattle.partition_model.specs.Graphs.{Graph, Satisfies, IsLeastViolation, Merged}
use Rattle.path_finder.specs.IdSets.{has_id}
use Rattle.path_finder.specs.Keeping.{KeepsViolations}
use Rattle.path_finder.proofs.Narrow.{loss_keeps, narrowed_least, narrowed_satisfies, live_below}
use Rattle.path_finder.proofs.finder.Finder.least_loss.Goals as goal

pub find-requires : goal.find-requires
find-requires g c =
    let l : c.args.merge.p < c.ids_used.result = live_below (c.args.graph.now.traces) c.ids_used.result c.args.merge.p c.requires.pair.low c.ids_used.ensures.below c.requires.pair.has_p in
    omega (arith, l, c.ids_used.ensures.limit)

pub returns-then-not-search : goal.returns-then-not-search
returns-then-not-search g c =
    let m : Graph = Merged (G c.args.graph.now.traces) c.args.merge.p c.args.merge.q in
    let k : KeepsViolations (has_id c.find.new.self.near) m c.args.inv =
    loss_keeps (has_id c.find.new.self.near) (G c.args.graph.now.traces) c.args.merge.p c.args.merge.q c.args.inv c.find.ensures (c.requires.known c.if-not-satisfied.false) in
    record {
      found = narrowed_satisfies (has_id c.find.new.self.near) m c.args.inv k
          (subst₂ (λ (x : Graph) (i : Invariant). Satisfies x i) c.new-question.ensures.graph c.new-question.ensures.inv (c.if-not-search.ensures.satisfied refl));
      short = tt;
      counted = search rules;
    }

pub returns : goal.returns
returns g c =
    let m : Graph = Merged (G c.args.graph.now.traces) c.args.merge.p c.args.merge.q in
    let k : KeepsViolations (has_id c.find.new.self.near) m c.args.inv =
    loss_keeps (has_id c.find.new.self.near) (G c.args.graph.now.traces) c.args.merge.p c.args.merge.q c.args.inv c.find.ensures (c.requires.known c.if-not-satisfied.false) in
    record {
      found = subst (λ (p : List ℕ). IsLeastViolation m c.args.inv p) (sym c.deref.ensures.value)
          (narrowed_least (has_id c.find.new.self.near) m c.args.inv c.search.new.path.items k
          (subst₂ (λ (x : Graph) (i : Invariant). IsLeastViolation x i c.search.new.path.items) c.new-question.ensures.graph c.new-question.ensures.inv (c.if-not-search.ensures.found refl)));
      short = search rules;
      counted = search rules;
    }
