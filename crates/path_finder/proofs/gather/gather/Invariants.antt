use Rattle.std.proofs.Common.{◌≡◌, ◌⊎◌, ◌<◌, ◌≤◌, ℕ, true, slice_get, Some}
use Rattle.limits.specs.declared.TheConstants.{MAX_PARTITIONS}
use Rattle.path_finder.specs.declared.pair.Pair.{Pair}
use Rattle.path_finder.specs.declared.table.Entry.{Entry}
use Rattle.path_finder.specs.Asking.{asked}
use Rattle.path_finder.specs.PairSets.{has_pair, IsAmong, IsMarked}
use Rattle.path_finder.specs.Tables.{part_of, IsListedFrom}
use Rattle.path_finder.specs.Walks.{IsPairOf, Leads}
use Rattle.path_finder.proofs.gather.gather.Given as goal

abbrev pub invariant-loop-i : goal.invariant-loop-i
invariant-loop-i l =
    record {
      marked : IsMarked l.found;
      kept : (p : Pair) → has_pair l.initial.found p ≡ true → has_pair l.found p ≡ true;
      all : (j : ℕ) (x : Entry) → l.first ≤ j → j < l.i → slice_get l.table.parts j ≡ Some x → (p q : Pair) → IsAmong (part_of x) q → IsPairOf (asked l.question) p → Leads (asked l.question) p q → has_pair l.found p ≡ true;
      others : (p : Pair) → p.id < MAX_PARTITIONS → has_pair l.found p ≡ true → (has_pair l.initial.found p ≡ true) ⊎ ((q : Pair) × IsListedFrom l.first l.table q × Leads (asked l.question) p q);
    }
