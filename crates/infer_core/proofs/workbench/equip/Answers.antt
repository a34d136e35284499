use Rattle.std.proofs.Common.{List, IfOk, sym, subst}
use Rattle.std.proofs.lemmas.Result.{IfOk-weaker}
use Rattle.invariants.specs.declared.Invariant.{Invariant}
use Rattle.partition_model.specs.Assignments.{G}
use Rattle.labelling.specs.Labelled.{SaysSatisfied}
use Rattle.infer_core.specs.Portions.{AreNamed}
use Rattle.infer_core.proofs.workbench.equip.Goals as goal

pub satisfied-requires-clause-named : goal.satisfied-requires-clause-named
satisfied-requires-clause-named c = subst (λ (invs : List Invariant). AreNamed invs) (sym c.as_slice-2.ensures) (subst (λ r. IfOk r (λ made. AreNamed made.1)) c.in-Ok.is c.requires.named)

pub returns-clause-told : goal.returns-clause-told
returns-clause-told c =
    let g = G c.in-Ok.graph.traces in
    IfOk-weaker c.both.result _ _
    (λ pair e.
    let told : SaysSatisfied g c.as_slice-2.result.now pair.1.items = subst (λ r. IfOk r (λ flags. SaysSatisfied g c.as_slice-2.result.now flags.items)) e c.satisfied.ensures.told in
    subst (λ r. IfOk r (λ made. SaysSatisfied (G made.0.0.traces) made.1 pair.1.items)) (sym c.in-Ok.is) (subst (λ (invs : List Invariant). SaysSatisfied g invs pair.1.items) c.as_slice-2.ensures told))
    c.both.ensures.second
