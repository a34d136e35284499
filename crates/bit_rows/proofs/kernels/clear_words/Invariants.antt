use Rattle.bit_rows.specs.Written.{IsWritten}
use Rattle.bit_rows.proofs.kernels.clear_words.Given as goal

abbrev pub invariant-loop-k : goal.invariant-loop-k
invariant-loop-k l = IsWritten l.fn.words l.words l.to l.k (λ _. 0)
