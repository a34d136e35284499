use Rattle.std.proofs.Common.{◌≡◌, ◌<◌, ℕ, [], length, get_or}
use Rattle.infer_core.proofs.labels.copy_state.Given as goal

abbrev pub invariant-loop-j : goal.invariant-loop-j
invariant-loop-j l =
    record {
      size : length l.column ≡ length l.words;
      copied : (i : ℕ) → i < l.j → get_or l.column i 0 ≡ get_or (get_or l.words i []) l.state 0;
    }
