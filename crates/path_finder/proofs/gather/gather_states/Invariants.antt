use Rattle.std.proofs.Common.{◌≡◌, ◌⊎◌, ◌<◌, true}
use Rattle.limits.specs.declared.TheConstants.{MAX_PARTITIONS}
use Rattle.path_finder.specs.declared.pair.Pair.{Pair}
use Rattle.path_finder.specs.Asking.{asked}
use Rattle.path_finder.specs.PairSets.{has_pair, IsMarked}
use Rattle.path_finder.specs.Walks.{IsPairOf, Leads}
use Rattle.path_finder.proofs.gather.gather_states.Given as goal

abbrev pub invariant-loop-state : goal.invariant-loop-state
invariant-loop-state l =
    record {
      marked : IsMarked l.found;
      kept : (p : Pair) → has_pair l.initial.found p ≡ true → has_pair l.found p ≡ true;
      all : (p : Pair) → IsPairOf (asked l.question) p → p.state < l.state → Leads (asked l.question) p l.pair → has_pair l.found p ≡ true;
      others : (p : Pair) → p.id < MAX_PARTITIONS → has_pair l.found p ≡ true → (has_pair l.initial.found p ≡ true) ⊎ Leads (asked l.question) p l.pair;
    }
