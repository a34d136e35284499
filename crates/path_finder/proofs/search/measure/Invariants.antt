use Rattle.std.proofs.Common.{◌≡◌, ◌-◌, ◌*◌}
use Rattle.path_finder.specs.declared.pair.TheConstants.{STATES}
use Rattle.path_finder.specs.declared.table.TheConstants.{OPEN}
use Rattle.path_finder.specs.Asking.{asked}
use Rattle.path_finder.specs.Levels.{HasEntered, IsDue}
use Rattle.path_finder.specs.Tables.{at}
use Rattle.path_finder.proofs.search.measure.Given as goal

abbrev pub invariant-levels : goal.invariant-levels
invariant-levels l =
    record {
      due : IsDue (asked l.question) l.distance l.table l.found;
      entered : HasEntered (asked l.question) l.table l.entered;
      stands_open : at l.table l.start ≡ OPEN;
    }

abbrev pub decreases-levels : goal.decreases-levels
decreases-levels l = l.question.ids * STATES - l.distance
