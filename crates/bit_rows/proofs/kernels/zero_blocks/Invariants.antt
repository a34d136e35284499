use Rattle.std.proofs.Common.{◌≡◌, ℕ, ◌*◌, ◌<◌}
use Rattle.bit_rows.specs.Written.{word}
use Rattle.bit_rows.proofs.kernels.zero_blocks.Given as goal

abbrev pub invariant-loop-b : goal.invariant-loop-b
invariant-loop-b l = (k : ℕ) → k < l.b * 8 → word l.words l.at k ≡ 0
