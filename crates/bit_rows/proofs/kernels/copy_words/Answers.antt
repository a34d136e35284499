use Rattle.std.proofs.Common.{arith}
use Rattle.bit_rows.specs.Written.{word}
use Rattle.bit_rows.proofs.Writing.{next_written, apart_kept}
use Rattle.bit_rows.proofs.kernels.copy_words.Goals as goal

pub loop-k-preserved : goal.loop-k-preserved
loop-k-preserved c = next_written c.args.words.now c.loop-k.words c.args.to c.loop-k.k _ (word c.args.words.now c.args.from) (omega arith) (apart_kept c.args.words.now c.loop-k.words c.args.to c.args.from c.loop-k.k c.args.count _ c.requires.apart (omega arith) c.loop-k.invariant) c.loop-k.invariant
