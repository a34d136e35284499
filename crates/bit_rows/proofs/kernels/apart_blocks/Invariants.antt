use Rattle.std.proofs.Common.{◌≡◌, ℕ, ◌*◌, ◌<◌, bit_and}
use Rattle.std.specs.Int.Bits.{bit_or}
use Rattle.bit_rows.specs.Written.{word}
use Rattle.bit_rows.proofs.kernels.apart_blocks.Given as goal

abbrev pub invariant-loop-i : goal.invariant-loop-i
invariant-loop-i l = (k : ℕ) → k < l.i * 8 → bit_or (bit_and (word l.words l.a k) (word l.words l.b k)) (bit_and (word l.words l.c k) (word l.words l.d k)) ≡ 0
