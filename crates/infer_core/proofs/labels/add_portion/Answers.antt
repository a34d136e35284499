use Rattle.std.proofs.Common.{◌≡◌, ◌<◌, ℕ, List, Bool, length, get_or, subst, sym, ap, ◌∙◌, arith}
use Rattle.std.proofs.lemmas.Option.{slice_get-get_or, slice_get_within}
use Rattle.std.proofs.lemmas.Result.{on_ok_weaker}
use Rattle.invariants.specs.declared.Invariant.{Invariant}
use Rattle.partition_model.specs.Graphs.{Graph}
use Rattle.labelling.specs.Labelled.{AreLabelsOf}
use Rattle.infer_core.specs.Vacuous.{AreMetOnceOnWalks, Covers}
use Rattle.infer_core.proofs.Once.{no_invariant}
use Rattle.infer_core.proofs.labels.add_portion.Goals as goal

pub add_listed-added-requires-clause-numbers : goal.add_listed-added-requires-clause-numbers
add_listed-added-requires-clause-numbers c k low =
    let invs : List Invariant = c.args.invs.now in
    let found = c.in_ok-asked.ensures.covers k (get_or invs k no_invariant) (slice_get-get_or invs k no_invariant low) in
    let within : get_or c.in_ok-asked.numbers.items k 0 < length c.in_ok-asked.asked.items = slice_get_within c.in_ok-asked.asked.items (get_or c.in_ok-asked.numbers.items k 0) found.0 found.1 in
    let same : get_or c.as_slice-2.result.now k 0 ≡ get_or c.in_ok-asked.numbers.items k 0 = ap (λ (ns : List ℕ). get_or ns k 0) c.as_slice-2.ensures.value in
    let count : c.len.result ≡ length c.in_ok-asked.asked.items = c.len.ensures ∙ (sym c.as_slice.ensures.len ∙ ap (λ (xs : List Invariant). length xs) c.as_slice.ensures.value) in
    omega (arith, within, same, count)

pub returns-clause-labels : goal.returns-clause-labels
returns-clause-labels c =
    let once : List Bool = c.args.once.now in
    let invs : List Invariant = c.args.invs.now in
    let listed : c.in_ok-graph_labels.graph_labels.invs ≡ c.in_ok-asked.asked.items = c.in_ok-graph_labels.ensures.list ∙ c.as_slice.ensures.value in
    let covers : Covers once invs c.in_ok-graph_labels.graph_labels.invs c.as_slice-2.result.now =
    subst (λ (xs : List Invariant). Covers once invs xs c.as_slice-2.result.now) (sym listed)
    (subst (λ (ns : List ℕ). Covers once invs c.in_ok-asked.asked.items ns) (sym c.as_slice-2.ensures.value) c.in_ok-asked.ensures.covers) in
    on_ok_weaker c.add_listed-added.result
    (λ all h a e before.
    all h once a (subst (λ (g : Graph). AreLabelsOf c.in_ok-graph_labels.graph_labels g) (sym e) c.in_ok-graph_labels.ensures.labels) covers
    (subst (λ (g : Graph). AreMetOnceOnWalks g once) (sym e) c.requires.once) before)
    c.add_listed-added.ensures.labels
