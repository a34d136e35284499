use Rattle.std.proofs.Common.{◌≡◌, ◌⊎◌, ◌<◌, ◌%◌, true}
use Rattle.limits.specs.declared.TheConstants.{MAX_PARTITIONS}
use Rattle.path_finder.specs.declared.pair.Pair.{Pair}
use Rattle.path_finder.specs.Asking.{asked, looks_at}
use Rattle.path_finder.specs.PairSets.{has_pair, IsAmong, IsMarked}
use Rattle.path_finder.specs.Tables.{part_of}
use Rattle.path_finder.specs.Walks.{IsPairOf, Leads}
use Rattle.path_finder.proofs.PairSets.{on}
use Rattle.path_finder.proofs.gather.gather_entry.Given as goal

abbrev pub invariant-loop-id : goal.invariant-loop-id
invariant-loop-id l =
    record {
      marked : IsMarked l.found;
      within : (r : Pair) → IsAmong (record { state = l.entry.state; place = l.entry.place; word = l.rest }) r → IsAmong (part_of l.entry) r × (looks_at l.question r.id ≡ true);
      kept : (p : Pair) → has_pair l.initial.found p ≡ true → has_pair l.found p ≡ true;
      all : (p q : Pair) → IsAmong (part_of l.entry) q → IsPairOf (asked l.question) p → Leads (asked l.question) p q → (on l.rest (q.id % 64) ≡ true) ⊎ (has_pair l.found p ≡ true);
      others : (p : Pair) → p.id < MAX_PARTITIONS → has_pair l.found p ≡ true → (has_pair l.initial.found p ≡ true) ⊎ ((q : Pair) × IsAmong (part_of l.entry) q × Leads (asked l.question) p q);
    }

abbrev pub decreases-loop-id : goal.decreases-loop-id
decreases-loop-id l = l.rest
