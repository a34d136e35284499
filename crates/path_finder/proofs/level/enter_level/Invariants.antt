use Rattle.std.proofs.Common.{◌≡◌, ◌+◌, ◌*◌, ◌≤◌, true, false}
use Rattle.path_finder.specs.declared.pair.TheConstants.{STATES}
use Rattle.path_finder.specs.declared.pair.Pair.{Pair}
use Rattle.path_finder.specs.Asking.{asked}
use Rattle.path_finder.specs.Levels.{ArePassed, HasEntered, IsEntering}
use Rattle.path_finder.specs.Tables.{at, open_count, IsSplitAt}
use Rattle.path_finder.specs.Walks.{IsPairOf}
use Rattle.path_finder.proofs.level.enter_level.Given as goal

abbrev pub invariant-loop-part : goal.invariant-loop-part
invariant-loop-part l =
    record {
      entered : HasEntered (asked l.question) l.table l.entered;
      entering : IsEntering (asked l.question) l.distance l.table l.found;
      passed : ArePassed (asked l.question) l.distance l.initial.table l.table;
      split : IsSplitAt l.distance l.first l.table;
      some : l.any ≡ true → l.distance + 1 + open_count l.table ≤ (asked l.question).ids * STATES;
      none : l.any ≡ false → (r : Pair) → IsPairOf (asked l.question) r → at l.table r ≡ l.distance → ⊥;
    }

abbrev pub decreases-loop-part : goal.decreases-loop-part
decreases-loop-part l = l.found.marks
