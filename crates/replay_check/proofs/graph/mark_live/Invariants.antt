use Rattle.std.proofs.Common.{◌≡◌, ◌<◌, ◌≤◌, ℕ, false, nat_lt, length, get_or}
use Rattle.replay_check.proofs.graph.mark_live.Given as goal

abbrev pub invariant-loop-p : goal.invariant-loop-p
invariant-loop-p l =
    record {
      size : length l.live ≡ length l.initial.live;
      ends : (j : ℕ) → j < 2 → get_or l.live j false ≡ get_or l.initial.live j false;
      marked : (j : ℕ) → 2 ≤ j → j < l.p → get_or l.live j false ≡ nat_lt 0 (get_or l.sizes j 0);
    }
