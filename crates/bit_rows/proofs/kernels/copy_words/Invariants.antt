use Rattle.bit_rows.specs.Written.{word, IsWritten}
use Rattle.bit_rows.proofs.kernels.copy_words.Given as goal

abbrev pub invariant-loop-k : goal.invariant-loop-k
invariant-loop-k l = IsWritten l.fn.words l.words l.to l.k (word l.fn.words l.from)
