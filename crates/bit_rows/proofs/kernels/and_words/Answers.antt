use Rattle.std.proofs.Common.{ap₂, arith}
use lib.Bits.{bit_and}
use Rattle.bit_rows.specs.Written.{word}
use Rattle.bit_rows.proofs.Writing.{next_written, here_kept, apart_kept}
use Rattle.bit_rows.proofs.kernels.and_words.Goals as goal

pub loop-k-preserved : goal.loop-k-preserved
loop-k-preserved c =
    next_written c.args.words.now c.loop-k.words c.args.to c.loop-k.k _ (λ k. bit_and (word c.args.words.now c.args.to k) (word c.args.words.now c.args.from k)) (omega arith)
    (ap₂ bit_and (here_kept c.args.words.now c.loop-k.words c.args.to c.loop-k.k _ c.loop-k.invariant) (apart_kept c.args.words.now c.loop-k.words c.args.to c.args.from c.loop-k.k c.args.count _ c.requires.apart (omega arith) c.loop-k.invariant))
    c.loop-k.invariant
