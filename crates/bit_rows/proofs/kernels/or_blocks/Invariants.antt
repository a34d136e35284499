use Rattle.std.proofs.Common.{◌≡◌, ◌*◌, length}
use Rattle.std.specs.Int.Bits.{bit_or}
use lib.Lanes.{fold_l}
use Rattle.bit_rows.specs.Written.{word, AllFit, IsWritten, HasSeen}
use Rattle.bit_rows.proofs.kernels.or_blocks.Given as goal

abbrev pub invariant-loop-b : goal.invariant-loop-b
invariant-loop-b l = record {
  fits : AllFit l.fn.words;
  eight : length l.more ≡ 8;
  written : IsWritten l.fn.words l.words l.to (l.b * 8) (λ k. bit_or (word l.fn.words l.to k) (word l.fn.words l.from k));
  seen : HasSeen (l.b * 8) (λ k. bit_or (word l.fn.words l.to k) (word l.fn.words l.from k)) (word l.fn.words l.to) (fold_l bit_or 0 l.more);
}
