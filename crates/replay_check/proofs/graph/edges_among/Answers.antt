use Rattle.std.proofs.Common.{List, sym, subst}
use Rattle.std.proofs.lemmas.Result.{IfOk-weaker}
use Rattle.invariants.specs.declared.records.Edge.{Edge}
use Rattle.partition_model.specs.Listings.{AreEdges}
use Rattle.replay_check.proofs.Known.{has-counts, all-edges}
use Rattle.replay_check.proofs.graph.edges_among.Goals as goal

pub returns : goal.returns
returns c =
    IfOk-weaker c.edges_of.result _ _
    (λ list listed h t e.
    subst (λ (xs : List Edge). AreEdges xs h) (sym (listed h (has-counts h c.args.ids.now c.in_ok-counts.counts.counts.items t e c.in_ok-counts.ensures.counts)))
    (all-edges h c.args.ids.now c.bound_of-bound.result c.bound_of-bound.ensures.ends e c.bound_of-bound.ensures.within))
    c.edges_of.ensures
