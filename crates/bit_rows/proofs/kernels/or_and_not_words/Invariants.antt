use Rattle.std.specs.Int.{bit_not, w64}
use Rattle.std.specs.Int.Bits.{bit_or}
use lib.Bits.{bit_and}
use Rattle.bit_rows.specs.Written.{word, AllFit, IsWritten, HasSeen}
use Rattle.bit_rows.proofs.kernels.or_and_not_words.Given as goal

abbrev pub invariant-loop-k : goal.invariant-loop-k
invariant-loop-k l = record {
  fits : AllFit l.fn.words;
  fits_now : AllFit l.words;
  written : IsWritten l.fn.words l.words l.to l.k (λ k. bit_or (word l.fn.words l.to k) (bit_and (word l.fn.words l.a k) (bit_not w64 (word l.fn.words l.mask k))));
  seen : HasSeen l.k (λ k. bit_or (word l.fn.words l.to k) (bit_and (word l.fn.words l.a k) (bit_not w64 (word l.fn.words l.mask k)))) (word l.fn.words l.to) l.more;
}
