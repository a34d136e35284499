use Rattle.std.proofs.Common.{◌≡◌, ◌+◌, ◌<◌, ◌∷◌, ℕ, drop, length}
use Rattle.limits.specs.declared.TheConstants.{MAX_PARTITIONS}
use Rattle.replay_check.specs.Shown.{count_at, HasRow}
use Rattle.replay_check.proofs.Counting.{steps}
use Rattle.replay_check.proofs.counts.count_along.Given as goal

abbrev pub invariant-loop-id : goal.invariant-loop-id
invariant-loop-id l =
    record {
      row : HasRow l.counts l.before;
      size : length l.counts ≡ length l.initial.counts;
      counted : (p q : ℕ) → q < MAX_PARTITIONS
          → count_at l.counts p q + steps p q (l.before ∷ drop l.id-index l.ids) ≡ steps p q (1 ∷ l.ids);
    }
