use Rattle.std.proofs.Common.{◌≡◌, true, false, refl, sym, ◌∙◌, take, take_all}
use Rattle.std.proofs.lemmas.List.Elements.{All-more, All-same}
use Rattle.closure_miner.proofs.striking.are_all.Goals as goal

pub loop-set-preserved : goal.loop-set-preserved
loop-set-preserved g c = All-more (λ set. set ≡ c.args.all) c.args.sets.now c.loop-set.set-index c.set-item.result c.loop-set-test.true c.loop-set.invariant (sym c.set-item.is ∙ c.is.ensures.0 c.if-not-is.false)

pub returns-then-not-is : goal.returns-then-not-is
returns-then-not-is g c = (
  λ no. absurd (let e : false ≡ true = no in cc),
  λ all. sym c.if-not-is.true ∙ c.is.ensures.1 (c.set-item.is ∙ all c.loop-set.set-index c.set-item.result c.loop-set-test.true),
)

pub returns : goal.returns
returns g c = (λ same. All-same (λ set. set ≡ c.args.all) c.args.sets.now (take c.loop-set.set-index c.args.sets.now) (sym (take_all c.loop-set.set-index c.args.sets.now c.loop-set-test.false)) c.loop-set.invariant, λ all. refl)
