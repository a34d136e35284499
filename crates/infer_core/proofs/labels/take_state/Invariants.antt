use Rattle.std.proofs.Common.{◌≡◌, ◌<◌, ◌*◌, ◌/◌, ◌%◌, ◌^◌, ℕ, length, get_or}
use Rattle.infer_core.proofs.labels.take_state.Given as goal

abbrev pub invariant-loop-j : goal.invariant-loop-j
invariant-loop-j l =
    record {
      size : length l.bytes ≡ length l.column;
      taken : (i : ℕ) → i < l.j → get_or l.bytes i 0 ≡ get_or l.column i 0 / 2 ^ (8 * l.number) % 256;
    }
