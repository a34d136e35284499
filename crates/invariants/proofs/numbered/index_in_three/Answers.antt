use Rattle.std.proofs.Common.{◌≡◌, ◌∙◌, arith, sym, ap}
use Rattle.invariants.specs.declared.Kinds.TheVariants.{Three}
use Rattle.invariants.specs.Candidates.{kind_at}
use Rattle.invariants.proofs.CandidatePlaces.{three-at}
use Rattle.invariants.proofs.EachKinds.{no-candidate}
use Rattle.invariants.proofs.Members.{found, found-none, absent, absent-none}
use Rattle.invariants.proofs.numbered.index_in_three.Goals as goal

pub returns-then-place-eq3 : goal.returns-then-place-eq3
returns-then-place-eq3 c =
    let last : c.place_of-place.result ≡ 3 = omega arith in
    let no = no-candidate Three c.args.types c.args.inv (λ f. omega (arith, f.a, c.requires.a.0)) (λ p. p.asked (sym c.place_of-place.ensures.place ∙ ap kind_at last)) in
    record { index = absent Three c.args.types c.args.inv no; none = absent-none Three c.args.types c.args.inv no }

pub returns : goal.returns
returns c =
    let at = three-at c.args.types c.args.inv c.from-a.result c.from-b.result c.place_of-place.result c.from-a.ensures c.from-b.ensures c.place_of-place.ensures.place
    (omega (arith, c.place_of-place.ensures.within)) (omega (arith, c.requires.a.0)) (omega (arith, c.requires.a.1)) (omega (arith, c.requires.b.0)) (omega (arith, c.requires.b.1)) in
    record { index = found Three c.args.types _ c.args.inv at; none = found-none Three c.args.types _ c.args.inv at }
