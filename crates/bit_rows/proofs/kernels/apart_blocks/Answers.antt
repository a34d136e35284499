use Rattle.std.proofs.Common.{◌+◌, ◌≤◌, arith}
use Rattle.bit_rows.proofs.Blocks.{next_apart_block}
use Rattle.bit_rows.proofs.kernels.apart_blocks.Goals as goal

pub loop-i-preserved : goal.loop-i-preserved
loop-i-preserved c =
    let few : c.loop-i.i + 1 ≤ c.args.blocks = omega (arith, c.loop-i-test.true) in
    next_apart_block c.args.words.now c.args.a c.args.b c.args.c c.args.d c.loop-i.i (omega (arith, few, c.requires.a_in)) (omega (arith, few, c.requires.b_in)) (omega (arith, few, c.requires.c_in)) (omega (arith, few, c.requires.d_in))
    c.if-one-other-ne0.false c.loop-i.invariant
