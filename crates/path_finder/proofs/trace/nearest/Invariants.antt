use Rattle.std.proofs.Common.{◌≡◌, ◌/◌, ◌%◌, ℕ, true}
use Rattle.path_finder.specs.declared.pair.Pair.{Pair}
use Rattle.path_finder.specs.Asking.{asked}
use Rattle.path_finder.specs.PairSets.{IsAmong}
use Rattle.path_finder.specs.Tables.{part_of}
use Rattle.path_finder.specs.Walks.{Leads}
use Rattle.path_finder.proofs.PairSets.{on}
use Rattle.path_finder.proofs.trace.nearest.Given as goal

abbrev pub invariant-loop-at : goal.invariant-loop-at
invariant-loop-at l =
    record {
      within : (id : ℕ) → id / 64 ≡ l.entry.place → on l.rest (id % 64) ≡ true → ((asked l.question).graph.edge l.pair.id id ≡ true) × (on l.entry.word (id % 64) ≡ true);
      waits : (r : Pair) → IsAmong (part_of l.entry) r → Leads (asked l.question) l.pair r → on l.rest (r.id % 64) ≡ true;
    }

abbrev pub decreases-loop-at : goal.decreases-loop-at
decreases-loop-at l = l.rest
