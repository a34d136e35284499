use Rattle.clashes.proofs.Named.{named_more}
use Rattle.clashes.proofs.masks.first_unnamed.Goals as goal

pub loop-inv-preserved : goal.loop-inv-preserved
loop-inv-preserved c = (
  c.above-unnamed.ensures.within c.loop-inv.invariant.0,
  named_more c.args.invs.now c.loop-inv.inv-index _ c.loop-inv.unnamed c.above-unnamed.result c.max.result c.loop-inv-test.true c.loop-inv.invariant.1 c.above-unnamed.ensures.more
      c.max.ensures c.above-unnamed.ensures.above,
)
