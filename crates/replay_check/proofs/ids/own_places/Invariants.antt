use Rattle.std.proofs.Common.{◌≡◌, ◌<◌, ℕ, length, get_or}
use Rattle.limits.specs.declared.TheConstants.{MAX_PARTITIONS}
use Rattle.replay_check.proofs.ids.own_places.Given as goal

abbrev pub invariant-loop-place : goal.invariant-loop-place
invariant-loop-place l =
    record {
      size : length l.places.items ≡ MAX_PARTITIONS;
      own : (p : ℕ) → p < l.place → get_or l.places.items p 0 ≡ p;
    }
