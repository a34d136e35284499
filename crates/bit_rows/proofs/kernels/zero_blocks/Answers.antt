use Rattle.std.proofs.Common.{◌+◌, ◌≤◌, arith}
use Rattle.bit_rows.proofs.Blocks.{next_zero_block}
use Rattle.bit_rows.proofs.kernels.zero_blocks.Goals as goal

pub loop-b-preserved : goal.loop-b-preserved
loop-b-preserved c =
    let few : c.loop-b.b + 1 ≤ c.args.blocks = omega (arith, c.loop-b-test.true) in
    next_zero_block c.args.words.now c.args.at c.loop-b.b (omega (arith, few, c.requires)) c.if-words-at-ne0.false c.loop-b.invariant
