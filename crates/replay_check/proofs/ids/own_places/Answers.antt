use Rattle.std.proofs.Common.{◌≡◌, ◌<◌, ◌+◌, ℕ, List, length, get_or, set, sym, ◌∙◌, ap, inl, inr, arith}
use Rattle.std.proofs.lemmas.Bool.{cases_eq}
use Rattle.std.proofs.lemmas.List.{get_or-set_same, get_or-set_other, length-set, get_or_default}
use Rattle.limits.specs.declared.TheConstants.{MAX_PARTITIONS}
use Rattle.replay_check.proofs.ids.own_places.Goals as goal

own-more : (xs : List ℕ) (k : ℕ) → k < length xs → ((p : ℕ) → p < k → get_or xs p 0 ≡ p) → (p : ℕ) → p < k + 1 → get_or (set xs k k) p 0 ≡ p
own-more xs k l own p m =
    elim (cases_eq p k) [
      | inl e ↦ ap (λ n. get_or (set xs k k) n 0) e ∙ get_or-set_same xs k k 0 l ∙ sym e
      | inr n ↦ get_or-set_other xs k p k 0 n ∙ own p (omega arith)
    ]

pub loop-place-preserved : goal.loop-place-preserved
loop-place-preserved c =
    let xs : List ℕ = c.loop-place.places.items in
    let size : length xs ≡ MAX_PARTITIONS = c.loop-place.invariant.size in
    record {
      size = length-set xs c.loop-place.place c.loop-place.place ∙ size;
      own = own-more xs c.loop-place.place (omega (arith, c.loop-place-test.true)) c.loop-place.invariant.own;
    }

pub returns-clause-within : goal.returns-clause-within
returns-clause-within c = λ k d l.
    let size : length c.loop-place.places.items ≡ MAX_PARTITIONS = c.loop-place.invariant.size in
    let e : get_or c.loop-place.places.items k d ≡ k = get_or_default c.loop-place.places.items k d 0 l ∙ c.loop-place.invariant.own k (omega (arith, c.loop-place-test.false)) in
    omega arith
