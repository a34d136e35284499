use Rattle.std.proofs.Common.{◌≡◌, ◌+◌, ◌<◌, ℕ, drop, length, get_or}
use Rattle.limits.specs.declared.TheConstants.{MAX_PARTITIONS}
use Rattle.replay_check.proofs.Laying.{times}
use Rattle.replay_check.proofs.graph.count_ids.Given as goal

abbrev pub invariant-loop-id : goal.invariant-loop-id
invariant-loop-id l =
    record {
      size : length l.sizes ≡ length l.fn.sizes;
      counted : (p : ℕ) → p < MAX_PARTITIONS → get_or l.sizes p 0 + times p (drop l.id-index l.ids) ≡ times p l.ids;
    }
