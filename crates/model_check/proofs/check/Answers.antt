use Rattle.std.proofs.Common.{◌≡◌, ◌≤◌, ℕ, List, length, sym, ◌∙◌, ap, subst, arith}
use Rattle.std.proofs.lemmas.List.{length-map}
use Rattle.limits.specs.declared.TheConstants.{MAX_TYPES}
use Rattle.model_shape.specs.Shapes.{listing_of}
use Rattle.traces.specs.Words.{words_of}
use Rattle.models.specs.Models.{mined_of, typed_words}
use Rattle.model_check.specs.Verdicts.{inv_of}
use Rattle.model_check.proofs.Reading.{mined-again, mined-few}
use Rattle.model_check.proofs.check.Goals as goal

pub returns-in-Some : goal.returns-in-Some
returns-in-Some c = (
  sym c.as_slice.ensures ∙ c.are_same.ensures.0 c.if-not-are_same.false ∙ c.as_slice-2.ensures ∙ c.types-types.ensures.value,
  rw c.in-Some.is at c.in_ok-k.ensures,
)

pub check_graph-requires-clause-types : goal.check_graph-requires-clause-types
check_graph-requires-clause-types c = sym c.as_slice.ensures ∙ c.are_same.ensures.0 c.if-not-are_same.false ∙ c.as_slice-2.ensures ∙ c.types-types.ensures.value

pub check_graph-requires-clause-listing : goal.check_graph-requires-clause-listing
check_graph-requires-clause-listing c = rw c.in_default.is at c.in_ok-k.ensures

pub check_graph-requires-clause-few : goal.check_graph-requires-clause-few
check_graph-requires-clause-few c =
    let same : listing_of c.args.model.now ≡ mined_of (typed_words c.args.model.now.kinds c.args.traces.now) = rw c.in_default.is at c.in_ok-k.ensures in
    let l = mined-few c.args.model.now.kinds (length c.args.traces.now.types) (words_of c.args.traces.now) (subst (λ (ts : List (List ℕ)). length ts ≤ MAX_TYPES) c.types-types.ensures.value c.types-types.ensures.few) in
    omega (arith, l, ap length same, ap length (mined-again c.args.model.now.kinds c.args.traces.now), length-map c.args.model.now.invariants inv_of)
