use Rattle.std.proofs.Common.{arith, refl}
use Rattle.bit_rows.proofs.Writing.{next_written}
use Rattle.bit_rows.proofs.kernels.clear_words.Goals as goal

pub loop-k-preserved : goal.loop-k-preserved
loop-k-preserved c = next_written c.args.words.now c.loop-k.words c.args.to c.loop-k.k _ (λ _. 0) (omega arith) refl c.loop-k.invariant
