use lib.Bits.{bit_and}
use Rattle.bit_rows.specs.Written.{word, IsWritten}
use Rattle.bit_rows.proofs.kernels.and_words.Given as goal

abbrev pub invariant-loop-k : goal.invariant-loop-k
invariant-loop-k l = IsWritten l.fn.words l.words l.to l.k (λ k. bit_and (word l.fn.words l.to k) (word l.fn.words l.from k))
