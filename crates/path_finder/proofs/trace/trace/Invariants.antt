use Rattle.std.proofs.Common.{◌≡◌, ◌+◌, ◌≤◌, ◌<◌, List, ℕ, ◌∷◌, length, vec_len, vec_capacity}
use Rattle.limits.specs.declared.TheConstants.{INITIAL}
use Rattle.path_finder.specs.declared.table.TheConstants.{MAX_ENTRIES, OPEN}
use Rattle.path_finder.specs.Asking.{asked}
use Rattle.path_finder.specs.Walks.{IsPairOf}
use Rattle.path_finder.specs.Tables.{at, IsKnown, IsSplitAt}
use Rattle.path_finder.proofs.Least.{IsLedTo}
use Rattle.path_finder.proofs.trace.trace.Given as goal

abbrev pub invariant-loop-left : goal.invariant-loop-left
invariant-loop-left l =
    record {
      pair : IsPairOf (asked l.question) l.pair;
      entry : at l.table l.pair ≡ l.left;
      known : IsKnown (asked l.question) l.left l.table;
      stands : l.left < OPEN;
      split : IsSplitAt l.left l.end l.table;
      room : vec_len l.path + l.left ≤ vec_capacity l.path;
      more : MAX_ENTRIES < vec_capacity l.path;
      few : length l.path.items + l.left ≤ MAX_ENTRIES + 1;
      front : (front : List ℕ) × (l.path.items ≡ INITIAL ∷ front) × IsLedTo (asked l.question) l.fn.start front l.pair;
    }

abbrev pub decreases-loop-left : goal.decreases-loop-left
decreases-loop-left l = l.left
