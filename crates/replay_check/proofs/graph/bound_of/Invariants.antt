use Rattle.std.proofs.Common.{ℕ, ◌<◌, ◌≤◌, get_or}
use Rattle.limits.specs.declared.TheConstants.{MAX_PARTITIONS}
use Rattle.replay_check.proofs.graph.bound_of.Given as goal

abbrev pub invariant-loop-k : goal.invariant-loop-k
invariant-loop-k l =
    record {
      ends : 1 ≤ l.greatest;
      most : l.greatest < MAX_PARTITIONS;
      within : (j : ℕ) → j < l.k → get_or l.ids j 0 ≤ l.greatest;
    }
