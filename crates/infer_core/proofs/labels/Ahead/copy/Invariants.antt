use Rattle.std.proofs.Common.{◌≡◌, ◌<◌, ℕ, [], length, get_or}
use Rattle.infer_core.proofs.labels.Ahead.copy.Given as goal

abbrev pub invariant-loop-j : goal.invariant-loop-j
invariant-loop-j l =
    record {
      size : length l.words ≡ length l.initial.words;
      copied : (i : ℕ) → i < l.j → get_or l.words i [] ≡ get_or (get_or l.ahead i []) l.b [];
    }
