use Rattle.std.specs.Int.{bit_not, w64}
use lib.Bits.{bit_and}
use Rattle.bit_rows.specs.Written.{word, AllFit, IsWritten}
use Rattle.bit_rows.proofs.kernels.and_not_words.Given as goal

abbrev pub invariant-loop-k : goal.invariant-loop-k
invariant-loop-k l = record {
  fits : AllFit l.fn.words;
  written : IsWritten l.fn.words l.words l.to l.k (λ k. bit_and (word l.fn.words l.to k) (bit_not w64 (word l.fn.words l.from k)));
}
