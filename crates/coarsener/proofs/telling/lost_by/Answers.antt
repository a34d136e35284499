use Rattle.std.proofs.Common.{ℕ, Option, sym, subst}
use Rattle.partition_model.specs.Graphs.{Merged}
use Rattle.partition_model.specs.Assignments.{G}
use Rattle.partition_model.specs.Refinement.{SatisfiesAll, IsFirstBroken}
use Rattle.coarsener.specs.Deciding.{IsFirstBad}
use Rattle.coarsener.proofs.Deciding.{IsTold, lost-some-some, lost-some-none, lost-none}
use Rattle.coarsener.proofs.telling.lost_by.Goals as goal

pub returns-in-Some-Some-clause-first : goal.returns-in-Some-Some-clause-first
returns-in-Some-Some-clause-first c h t i m f =
    let told : IsTold c.args.planes.now.clashes h c.args.pair.p c.args.pair.q = record { typed = t; pair = i; limit = c.requires.limit; marks_are = m } in
    let bad : IsFirstBroken (G h) c.args.planes.now.clashes.invs c.in-Some-Some.bad = subst (λ (b : Option ℕ). IsFirstBad (G h) c.args.planes.now.clashes.invs b) c.in-Some-Some.is-0 f in
    subst (λ (z : ℕ). IsFirstBroken (Merged (G h) c.args.pair.p c.args.pair.q) c.args.planes.now.clashes.invs z) (sym c.min.ensures)
    (lost-some-some c.args.planes.now.clashes h c.args.pair.p c.args.pair.q c.in-Some-Some.bad c.in-Some-Some.clash told bad c.in-Some-Some.ensures.first)

pub returns-in-Some-None-clause-first : goal.returns-in-Some-None-clause-first
returns-in-Some-None-clause-first c h t i m f =
    let told : IsTold c.args.planes.now.clashes h c.args.pair.p c.args.pair.q = record { typed = t; pair = i; limit = c.requires.limit; marks_are = m } in
    let bad : IsFirstBroken (G h) c.args.planes.now.clashes.invs c.in-Some-None.bad = subst (λ (b : Option ℕ). IsFirstBad (G h) c.args.planes.now.clashes.invs b) c.in-Some-None.is-0 f in
    lost-some-none c.args.planes.now.clashes h c.args.pair.p c.args.pair.q c.in-Some-None.bad told bad c.in-Some-None.ensures.first

pub returns-in-None-default-clause-first : goal.returns-in-None-default-clause-first
returns-in-None-default-clause-first c h t i m f =
    let told : IsTold c.args.planes.now.clashes h c.args.pair.p c.args.pair.q = record { typed = t; pair = i; limit = c.requires.limit; marks_are = m } in
    let all : SatisfiesAll (G h) c.args.planes.now.clashes.invs = subst (λ (b : Option ℕ). IsFirstBad (G h) c.args.planes.now.clashes.invs b) c.in-None-default.is-0 f in
    lost-none c.args.planes.now.clashes h c.args.pair.p c.args.pair.q c.first_clash.result told all c.first_clash.ensures.first
