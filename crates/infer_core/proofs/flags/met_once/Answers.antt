use Rattle.std.proofs.Common.{List, Result, Ok, Err, IfOk, subst, sym}
use Rattle.invariants.specs.declared.Invariant.{Invariant}
use Rattle.partition_model.specs.Assignments.{G}
use Rattle.infer_core.specs.Vacuous.{AreOfEachType}
use Rattle.infer_core.proofs.Once.{once-on-walks}
use Rattle.infer_core.proofs.Vacuous.{once-met}
use Rattle.infer_core.proofs.flags.met_once.Goals as goal

-- two facts about what was made give a third
both-so : {X E : Type 0} (r : Result X E) (P Q R : X → Type 0) → ((x : X) → P x → Q x → R x) → IfOk r P → IfOk r Q → IfOk r R
both-so (Ok x) P Q R f p q = f x p q
both-so (Err e) P Q R f p q = tt

pub returns-clause-paths : goal.returns-clause-paths
returns-clause-paths c =
    let g = G c.args.graph.now.traces in
    let each : AreOfEachType c.min-bound.result c.as_slice.result.now = subst (λ (xs : List Invariant). AreOfEachType c.min-bound.result xs) (sym c.as_slice.ensures.value) c.in_ok-invs.ensures in
    both-so c.satisfied_by_portions.result _ _ _
    (λ flags count told. once-met g c.min-bound.result c.as_slice.result.now flags.items each count told)
    c.satisfied_by_portions.ensures.count c.satisfied_by_portions.ensures.told

pub returns-clause-walks : goal.returns-clause-walks
returns-clause-walks c =
    let g = G c.args.graph.now.traces in
    let each : AreOfEachType c.min-bound.result c.as_slice.result.now = subst (λ (xs : List Invariant). AreOfEachType c.min-bound.result xs) (sym c.as_slice.ensures.value) c.in_ok-invs.ensures in
    both-so c.satisfied_by_portions.result _ _ _
    (λ flags count told. once-on-walks c.args.graph.now.traces flags.items c.ids_used.ensures.typed (once-met g c.min-bound.result c.as_slice.result.now flags.items each count told))
    c.satisfied_by_portions.ensures.count c.satisfied_by_portions.ensures.told
