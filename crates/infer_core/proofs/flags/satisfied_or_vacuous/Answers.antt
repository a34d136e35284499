use Rattle.std.proofs.Common.{◌≡◌, List, Bool, length, filter, subst, sym, ap, ◌∙◌, arith}
use Rattle.std.proofs.lemmas.Result.{IfOk-weaker}
use Rattle.invariants.specs.declared.Invariant.{Invariant}
use Rattle.partition_model.specs.Assignments.{G}
use Rattle.labelling.specs.Labelled.{SaysSatisfied}
use Rattle.infer_core.specs.Portions.{AreNamed}
use Rattle.infer_core.specs.Vacuous.{is_asked, AreMetOnce, TellsAll}
use Rattle.infer_core.proofs.Vacuous.{asked-few, asked-named, all-told}
use Rattle.infer_core.proofs.flags.satisfied_or_vacuous.Goals as goal

pub satisfied_by_portions-requires-clause-few : goal.satisfied_by_portions-requires-clause-few
satisfied_by_portions-requires-clause-few c =
    let same : c.as_slice-2.result.now ≡ filter (is_asked c.as_slice.result.now) c.args.invs.now = c.as_slice-2.ensures.value ∙ c.in_ok-asked.ensures in
    omega (arith, asked-few c.as_slice.result.now c.args.invs.now, c.requires.few, ap (λ (xs : List Invariant). length xs) same)

pub satisfied_by_portions-requires-clause-named : goal.satisfied_by_portions-requires-clause-named
satisfied_by_portions-requires-clause-named c =
    let same : c.as_slice-2.result.now ≡ filter (is_asked c.as_slice.result.now) c.args.invs.now = c.as_slice-2.ensures.value ∙ c.in_ok-asked.ensures in
    subst (λ (xs : List Invariant). AreNamed xs) (sym same) (asked-named c.as_slice.result.now c.args.invs.now c.requires.named)

pub returns-clause-told : goal.returns-clause-told
returns-clause-told c =
    let g = G c.args.graph.now.traces in
    let invs : List Invariant = c.args.invs.now in
    let once : List Bool = c.as_slice.result.now in
    let once-again : c.as_slice-3.result.now ≡ once = c.as_slice-3.ensures.value ∙ sym c.as_slice.ensures.value in
    let told : List Bool = c.as_slice-4.result.now in
    let same : c.as_slice-2.result.now ≡ filter (is_asked once) invs = c.as_slice-2.ensures.value ∙ c.in_ok-asked.ensures in
    let met : AreMetOnce g once = subst (λ (flags : List Bool). AreMetOnce g flags) (sym c.as_slice.ensures.value) c.in_ok-once.ensures.paths in
    let says : SaysSatisfied g (filter (is_asked once) invs) told =
    subst (λ (flags : List Bool). SaysSatisfied g (filter (is_asked once) invs) flags) (sym c.as_slice-4.ensures.value)
    (subst (λ (xs : List Invariant). SaysSatisfied g xs c.in_ok-told.told.items) same c.in_ok-told.ensures.told) in
    IfOk-weaker c.with_vacuous.result _ _
    (λ flags tells. all-told g once invs told flags.items met says (subst (λ (o : List Bool). TellsAll o invs told flags.items) once-again tells))
    c.with_vacuous.ensures.told
