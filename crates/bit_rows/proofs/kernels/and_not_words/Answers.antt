use Rattle.std.proofs.Common.{ap₂, arith}
use Rattle.std.specs.Int.{bit_not, w64}
use lib.Bits.{bit_and}
use Rattle.bit_rows.specs.Written.{word}
use Rattle.bit_rows.proofs.Writing.{none_written, next_written, here_kept, apart_kept}
use Rattle.bit_rows.proofs.kernels.and_not_words.Goals as goal

pub loop-k-preserved : goal.loop-k-preserved
loop-k-preserved c =
    record {
      fits = c.loop-k.invariant.fits;
      written =
          next_written c.args.words.now c.loop-k.words c.args.to c.loop-k.k _ (λ k. bit_and (word c.args.words.now c.args.to k) (bit_not w64 (word c.args.words.now c.args.from k))) (omega arith)
          (ap₂ (λ x y. bit_and x (bit_not w64 y)) (here_kept c.args.words.now c.loop-k.words c.args.to c.loop-k.k _ c.loop-k.invariant.written) (apart_kept c.args.words.now c.loop-k.words c.args.to c.args.from c.loop-k.k c.args.count _ c.requires.apart (omega arith) c.loop-k.invariant.written))
          c.loop-k.invariant.written;
    }

pub loop-k-init : goal.loop-k-init
loop-k-init c = record { fits = λ k. (c.type_inv.words k).fits; written = none_written c.args.words.now c.args.to _ }

pub returns-clause-fits : goal.returns-clause-fits
returns-clause-fits c = c.loop-k.invariant.fits
