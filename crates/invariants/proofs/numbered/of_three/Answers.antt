use Rattle.std.proofs.Common.{◌≡◌, ◌+◌, ◌-◌, ◌∙◌, arith, refl}
use Rattle.invariants.proofs.CandidatePlaces.{candidate-by_parts}
use Rattle.invariants.proofs.numbered.of_three.Goals as goal

pub returns : goal.returns
returns c =
    let same : c.args.types + c.args.place - c.args.types ≡ c.args.place = omega arith in
    candidate-by_parts c.args.types (c.args.types + c.args.place) (omega arith) (omega (arith, c.requires.within))
    ∙ rw (same, c.kind_at.ensures) refl
