use Rattle.std.proofs.Common.{◌≡◌, ◌<◌, ◌+◌, ◌*◌, ◌-◌, ◌∙◌, arith, sym, refl, ap, inl, inr, subst, Some}
use Rattle.std.specs.List.{slice_get}
use Rattle.invariants.specs.declared.Kind.TheVariants.{IB}
use Rattle.invariants.specs.declared.Kinds.TheVariants.{Four}
use Rattle.invariants.specs.Candidates.{candidates_for, kind_at}
use Rattle.invariants.proofs.FourPlaces.{four-by_types}
use Rattle.invariants.proofs.EachKinds.{no-candidate}
use Rattle.invariants.proofs.Members.{found, found-none, absent, absent-none}
use Rattle.invariants.proofs.numbered.index_in_four.Goals as goal
use Rattle.invariants.proofs.numbered.index_in_four.Goals.{else-place-eq3-via-then-place-eq3+else-inv, else-place-eq3-via-else-place-eq3}

pub returns-then-inv : goal.returns-then-inv
returns-then-inv c =
    let last : c.place_of-place.result ≡ 3 = omega arith in
    let kind : c.args.inv.kind ≡ IB = sym c.place_of-place.ensures.place ∙ ap kind_at last in
    let no = no-candidate Four c.args.types c.args.inv (λ f. omega (arith, f.a, c.requires.a.0)) (λ p. p.asked kind (omega arith)) in
    record { index = absent Four c.args.types c.args.inv no; none = absent-none Four c.args.types c.args.inv no }

pub returns-then-whole-a : goal.returns-then-whole-a
returns-then-whole-a c =
    let column = 4 * (c.from.result - 2) + c.place_of-place.result in
    let row = (c.from-a.result - 2) * (4 * c.args.types - 1) in
    let same : c.args.types + (row + column) ≡ c.args.types + row + column = omega arith in
    let at : slice_get (candidates_for Four c.args.types) (c.args.types + row + column) ≡ Some c.args.inv =
    subst (λ n. slice_get (candidates_for Four c.args.types) n ≡ Some c.args.inv) same
    (four-by_types c.args.types c.args.inv c.from-a.result c.from.result c.place_of-place.result column c.from-a.ensures c.from.ensures c.place_of-place.ensures.place
    c.place_of-place.ensures.within (omega (arith, c.requires.a.0)) (omega (arith, c.requires.a.1)) (omega (arith, c.requires.b.0)) (omega (arith, c.requires.b.1))
    (inl (omega arith, refl))) in
    record { index = found Four c.args.types _ c.args.inv at; none = found-none Four c.args.types _ c.args.inv at }

pub returns-else-whole-a : goal.returns-else-whole-a
returns-else-whole-a c =
    let whole = 4 * (c.from.result - 2) + c.place_of-place.result in
    let column = whole - 1 in
    let row = (c.from-a.result - 2) * (4 * c.args.types - 1) in
    let past : 4 * (c.from-a.result - 2) + 3 < whole =
    elim c.else-place-eq3.branch [
      | else-place-eq3-via-then-place-eq3+else-inv w ↦ omega (arith, w.if-place-eq3.true, w.if-inv.false, c.requires.a.0, c.requires.b.0)
      | else-place-eq3-via-else-place-eq3 w ↦ omega (arith, w.if-place-eq3.false, c.place_of-place.ensures.within, c.requires.a.0, c.requires.b.0)
    ] in
    let same : c.args.types + (row + column) ≡ c.args.types + row + column = omega arith in
    let at : slice_get (candidates_for Four c.args.types) (c.args.types + row + column) ≡ Some c.args.inv =
    subst (λ n. slice_get (candidates_for Four c.args.types) n ≡ Some c.args.inv) same
    (four-by_types c.args.types c.args.inv c.from-a.result c.from.result c.place_of-place.result column c.from-a.ensures c.from.ensures c.place_of-place.ensures.place
    c.place_of-place.ensures.within (omega (arith, c.requires.a.0)) (omega (arith, c.requires.a.1)) (omega (arith, c.requires.b.0)) (omega (arith, c.requires.b.1))
    (inr (past, omega (arith, past)))) in
    record { index = found Four c.args.types _ c.args.inv at; none = found-none Four c.args.types _ c.args.inv at }
