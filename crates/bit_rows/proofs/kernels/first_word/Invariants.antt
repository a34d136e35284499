use Rattle.std.proofs.Common.{◌≡◌, ℕ, ◌<◌}
use Rattle.bit_rows.specs.Written.{word}
use Rattle.bit_rows.proofs.kernels.first_word.Given as goal

abbrev pub invariant-loop-k : goal.invariant-loop-k
invariant-loop-k l = (k : ℕ) → k < l.k → word l.words l.at k ≡ 0
