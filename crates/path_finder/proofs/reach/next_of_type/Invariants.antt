use Rattle.std.proofs.Common.{◌≡◌, ◌<◌, ◌≤◌, ℕ}
use Rattle.limits.specs.declared.TheConstants.{FIRST_TYPE}
use Rattle.partition_graph.specs.Seen.{seen}
use Rattle.path_finder.proofs.reach.next_of_type.Given as goal

abbrev pub invariant-loop-id : goal.invariant-loop-id
invariant-loop-id l =
    record {
      none : (p : ℕ) → FIRST_TYPE ≤ p → l.from ≤ p → p < l.id → (seen l.view).typ p ≡ l.typ → ⊥;
    }
