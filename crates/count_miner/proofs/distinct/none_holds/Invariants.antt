use Rattle.std.proofs.Common.{◌≡◌, ◌<◌, ℕ, false, map, List, Some}
use Rattle.std.specs.List.{slice_get}
use Rattle.invariants.specs.declared.Invariant.{Invariant}
use Rattle.invariants.specs.Candidates.{candidates_for}
use Rattle.invariants.specs.Mined.{holds_of_all}
use Rattle.traces.specs.Words.{Trace, word_of}
use Rattle.count_miner.specs.Counts.{inner_words, AreCounts}
use Rattle.count_miner.proofs.distinct.none_holds.Given as goal

abbrev pub invariant-loop-index : goal.invariant-loop-index
invariant-loop-index l =
    (some : List Trace) → AreCounts l.counts (inner_words some) → (k : ℕ) (inv : Invariant)
    → k < l.index → slice_get (candidates_for l.fn.kinds l.fn.types) k ≡ Some inv → holds_of_all (map word_of some) inv ≡ false
