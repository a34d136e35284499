use Rattle.std.proofs.Common.{◌≡◌, ◌≤◌, ℕ, length, slice_get, Some}
use Rattle.path_finder.specs.declared.table.Entry.{Entry}
use Rattle.path_finder.proofs.trace.first_at.Given as goal

abbrev pub invariant-loop-first : goal.invariant-loop-first
invariant-loop-first l =
    record {
      within : l.first ≤ length l.table.parts;
      after : (i : ℕ) (x : Entry) → l.first ≤ i → slice_get l.table.parts i ≡ Some x → l.distance ≤ x.distance;
    }

abbrev pub decreases-loop-first : goal.decreases-loop-first
decreases-loop-first l = l.first
