use Rattle.std.proofs.Common.{◌+◌, ap₂, arith}
use Rattle.std.proofs.lemmas.Nat.{or_lt}
use Rattle.std.specs.Int.{bit_not, w64}
use Rattle.std.specs.Int.Bits.{bit_or}
use lib.Bits.{bit_and}
use Rattle.bit_rows.specs.Written.{word}
use Rattle.bit_rows.proofs.Writing.{none_written, none_seen, next_fits, and_fits, next_written, next_seen, here_kept, apart_kept}
use Rattle.bit_rows.proofs.kernels.or_and_not_words.Goals as goal

pub loop-k-preserved : goal.loop-k-preserved
loop-k-preserved c =
    let here = here_kept c.args.words.now c.loop-k.words c.args.to c.loop-k.k _ c.loop-k.invariant.written in
    let is = ap₂ bit_or here (ap₂ (λ x y. bit_and x (bit_not w64 y)) (apart_kept c.args.words.now c.loop-k.words c.args.to c.args.a c.loop-k.k c.args.count _ c.requires.a_apart (omega arith) c.loop-k.invariant.written) (apart_kept c.args.words.now c.loop-k.words c.args.to c.args.mask c.loop-k.k c.args.count _ c.requires.mask_apart (omega arith) c.loop-k.invariant.written)) in
    record {
      fits = c.loop-k.invariant.fits;
      fits_now = next_fits c.loop-k.words (c.args.to + c.loop-k.k) _ c.loop-k.invariant.fits_now (or_lt 64 _ _ (c.loop-k.invariant.fits_now (c.args.to + c.loop-k.k)) (and_fits _ _ (c.loop-k.invariant.fits_now (c.args.a + c.loop-k.k))));
      written = next_written c.args.words.now c.loop-k.words c.args.to c.loop-k.k _ (λ k. bit_or (word c.args.words.now c.args.to k) (bit_and (word c.args.words.now c.args.a k) (bit_not w64 (word c.args.words.now c.args.mask k)))) (omega arith) is c.loop-k.invariant.written;
      seen = rw is (rw here (next_seen c.loop-k.k (λ k. bit_or (word c.args.words.now c.args.to k) (bit_and (word c.args.words.now c.args.a k) (bit_not w64 (word c.args.words.now c.args.mask k)))) (word c.args.words.now c.args.to) c.loop-k.more c.loop-k.invariant.seen));
    }

pub loop-k-init : goal.loop-k-init
loop-k-init c = record { fits = λ k. (c.type_inv.words k).fits; fits_now = λ k. (c.type_inv.words k).fits; written = none_written c.args.words.now c.args.to _; seen = none_seen _ _ }

pub returns-clause-fits : goal.returns-clause-fits
returns-clause-fits c = (c.loop-k.invariant.fits, c.loop-k.invariant.fits_now)
