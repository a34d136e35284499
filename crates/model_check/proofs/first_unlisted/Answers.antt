use Rattle.std.proofs.Common.{◌≡◌, ◌≤◌, ℕ, List, length, map, ◌∙◌, ap, subst, arith}
use Rattle.std.specs.Prelude.{MatchOption}
use Rattle.limits.specs.declared.TheConstants.{MAX_TYPES}
use Rattle.invariants.specs.declared.Invariant.{Invariant}
use Rattle.invariants.specs.declared.records.Listed.{Listed}
use Rattle.model_shape.specs.Shapes.{listing_of}
use Rattle.traces.specs.Words.{words_of}
use Rattle.models.specs.Checks.{DiffersAt}
use Rattle.model_check.specs.Verdicts.{inv_of}
use Rattle.model_check.proofs.Reading.{mined-again, mined-few}
use Rattle.model_check.proofs.first_unlisted.Goals as goal

pub first_difference-requires : goal.first_difference-requires
first_difference-requires c =
    let l = mined-few c.args.model.now.kinds (length c.args.traces.now.types) (words_of c.args.traces.now) (subst (λ (ts : List (List ℕ)). length ts ≤ MAX_TYPES) c.types-types.ensures.value c.types-types.ensures.few) in
    omega (arith, l, ap length c.as_slice-2.ensures, ap length c.in_ok-mined.ensures)

pub returns : goal.returns
returns c =
    let same = c.as_slice-2.ensures ∙ c.in_ok-mined.ensures ∙ mined-again c.args.model.now.kinds c.args.traces.now in
    subst (λ (ys : List Invariant). MatchOption c.first_difference.result (listing_of c.args.model.now ≡ ys) (DiffersAt (listing_of c.args.model.now) ys)) same
    (subst (λ (xs : List Listed). MatchOption c.first_difference.result (map inv_of xs ≡ c.as_slice-2.result.now) (DiffersAt (map inv_of xs) c.as_slice-2.result.now)) c.as_slice.ensures c.first_difference.ensures)
