use Rattle.std.proofs.Common.{◌≡◌, ◌<◌, ◌⊎◌, Some, arith, length, slice_get, subst, sym}
use Rattle.std.proofs.lemmas.Option.{slice_get_within}
use Rattle.invariants.specs.Candidates.{candidates_for, IsFirst, IsPair}
use Rattle.invariants.proofs.EachKinds.{candidate-shape}
use Rattle.count_miner.proofs.distinct.none_holds.Goals as goal

pub holds-requires : goal.holds-requires
holds-requires c =
    let shape = candidate-shape c.args.kinds c.args.types c.loop-index.index c.in-Some.inv (sym c.in-Some.ensures.value) in
    record {
      candidate = subst (λ k. IsFirst c.args.counts.now.types c.in-Some.inv ⊎ IsPair k c.args.counts.now.types c.in-Some.inv) (sym c.requires.kinds)
          (subst (λ n. IsFirst n c.in-Some.inv ⊎ IsPair c.args.kinds n c.in-Some.inv) (sym c.requires.types) shape);
    }

pub returns : goal.returns
returns c = λ _ some counted k inv at.
    let here : slice_get (candidates_for c.args.kinds c.args.types) k ≡ Some inv =
    subst (λ n. slice_get (candidates_for c.args.kinds n) k ≡ Some inv) c.requires.types
    (subst (λ kinds. slice_get (candidates_for kinds c.args.counts.now.types) k ≡ Some inv) c.requires.kinds at) in
    let inside : k < length (candidates_for c.args.kinds c.args.types) = slice_get_within (candidates_for c.args.kinds c.args.types) k inv here in
    c.loop-index.invariant some counted k inv (omega (arith, inside, c.candidate_count-index-end.ensures.listed)) here
