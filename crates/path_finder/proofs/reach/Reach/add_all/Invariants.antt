use Rattle.std.proofs.Common.{◌≡◌, ◌==◌, ◌+◌, ◌*◌, ◌<◌, ◌≤◌, ◌-◌, ℕ, Bool, true, false, length}
use Rattle.std.specs.Int.{bit_at}
use Rattle.limits.specs.declared.TheConstants.{MAX_PARTITIONS}
use Rattle.path_finder.specs.Nearness.{is_met}
use Rattle.path_finder.specs.Reaching.{IsCounted, IsReaching, MeetsMore}
use Rattle.path_finder.proofs.reach.Reach.add_all.Given as goal

abbrev pub invariant-loop-id : goal.invariant-loop-id
invariant-loop-id l =
    record {
      counted : IsCounted l.self;
      long : length l.initial.self.list ≤ length l.self.list;
      reaching : (edge : ℕ → ℕ → Bool) (next : ℕ) → next ≤ length l.initial.self.list → IsReaching edge next l.initial.self → IsReaching edge next l.self;
      more : MeetsMore l.initial.self l.self;
      unmet : (i : ℕ) → i < 64 → (bit_at l.rest i == 1) ≡ true → is_met l.self (l.place * 64 + i) ≡ false;
      met : (i : ℕ) → i < 64 → (bit_at l.word i == 1) ≡ true → (bit_at l.rest i == 1) ≡ false → is_met l.self (l.place * 64 + i) ≡ true;
    }

abbrev pub decreases-loop-id : goal.decreases-loop-id
decreases-loop-id l = MAX_PARTITIONS - length l.self.list
