use Rattle.std.proofs.Common.{◌≡◌, ℕ, ◌+◌, ◌<◌, ◌≤◌, ◌&&◌, All, drop, get_or, length}
use Rattle.invariants.specs.Holds.{interrupted}
use Rattle.closure_miner.specs.Rows.{in_row}
use Rattle.closure_miner.specs.Sets.{has_at}
use Rattle.closure_miner.proofs.Sooner.{rest_from}
use Rattle.closure_miner.proofs.between.strike_trace.Given as goal

abbrev pub invariant-loop-others : goal.invariant-loop-others
invariant-loop-others l = record {
  within : l.others ≤ length l.events;
  narrow : All (λ row. length row.items ≤ length l.fn.next) l.rows;
  next : (t : ℕ) → t < length l.fn.next → get_or l.next t 0 ≡ rest_from (t + 2) (drop l.others l.events);
  struck : (a b : ℕ) → a < length l.fn.next → b < length l.fn.next
      → has_at in_row l.rows a b ≡ (has_at in_row l.fn.rows a b && interrupted (a + 2) (b + 2) (drop l.others l.events));
}

abbrev pub decreases-loop-others : goal.decreases-loop-others
decreases-loop-others l = l.others
