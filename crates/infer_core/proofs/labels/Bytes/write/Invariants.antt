use Rattle.std.proofs.Common.{◌≡◌, ◌<◌, ◌+◌, ◌*◌, ℕ, length, get_or}
use Rattle.std.specs.Int.{bit_at}
use Rattle.invariants.specs.Labels.{digit_of}
use Rattle.infer_core.proofs.labels.Bytes.write.Given as goal

abbrev pub invariant-loop-j : goal.invariant-loop-j
invariant-loop-j l =
    record {
      size : length l.row ≡ length l.initial.row;
      digits : (i : ℕ) → i < l.j → get_or l.row i 0
          ≡ digit_of (bit_at (get_or l.zeroth i 0) l.k + 2 * bit_at (get_or l.first i 0) l.k + 4 * bit_at (get_or l.second i 0) l.k);
    }
