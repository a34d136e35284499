use Rattle.path_finder.specs.Asking.{asked}
use Rattle.path_finder.proofs.Tracing.{IsChosen, IsLeastAmong}
use Rattle.path_finder.proofs.trace.next_pair.Given as goal

abbrev pub invariant-loop-i : goal.invariant-loop-i
invariant-loop-i l =
    record {
      chosen : IsChosen (asked l.question) l.table l.pair l.distance l.next;
      least : IsLeastAmong (asked l.question) l.table l.pair l.first l.i l.next;
    }
