use Rattle.std.proofs.Common.{◌≡◌, ◌<◌, ◌≤◌, ◌-◌, ℕ, Bool, true}
use Rattle.limits.specs.declared.TheConstants.{FIRST_TYPE, MAX_PARTITIONS}
use Rattle.partition_graph.specs.Seen.{seen}
use Rattle.path_finder.specs.Nearness.{is_met}
use Rattle.path_finder.specs.Reaching.{IsReaching}
use Rattle.path_finder.proofs.reach.begin_with_type.Given as goal

abbrev pub invariant-loop-end : goal.invariant-loop-end
invariant-loop-end l =
    record {
      ahead : (edge : ℕ → ℕ → Bool) → IsReaching edge 0 l.ahead;
      behind : (edge : ℕ → ℕ → Bool) → IsReaching edge 0 l.behind;
      met_ahead : (p : ℕ) → p < l.end → (seen l.view).typ p ≡ l.typ → is_met l.ahead p ≡ true;
      met_behind : (p : ℕ) → p < l.end → (seen l.view).typ p ≡ l.typ → is_met l.behind p ≡ true;
    }

abbrev pub invariant-loop-id : goal.invariant-loop-id
invariant-loop-id l =
    record {
      past : FIRST_TYPE ≤ l.id;
      within : l.id ≤ MAX_PARTITIONS;
      ahead : (edge : ℕ → ℕ → Bool) → IsReaching edge 0 l.ahead;
      behind : (edge : ℕ → ℕ → Bool) → IsReaching edge 0 l.behind;
      met_ahead : (p : ℕ) → p < l.id → (seen l.view).typ p ≡ l.typ → is_met l.ahead p ≡ true;
      met_behind : (p : ℕ) → p < l.id → (seen l.view).typ p ≡ l.typ → is_met l.behind p ≡ true;
    }

abbrev pub decreases-loop-id : goal.decreases-loop-id
decreases-loop-id l = MAX_PARTITIONS - l.id
