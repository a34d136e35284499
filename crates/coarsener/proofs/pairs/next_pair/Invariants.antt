use Rattle.std.proofs.Common.{◌<◌, ℕ}
use Rattle.partition_model.specs.Assignments.{G}
use Rattle.partition_model.specs.Coarsening.{IsPair, PairBefore}
use Rattle.coarsener.proofs.pairs.next_pair.Given as goal

abbrev pub invariant-loop-p : goal.invariant-loop-p
invariant-loop-p l = (r s : ℕ) → IsPair (G l.graph.traces) r s → PairBefore l.fn.at.p l.fn.at.q r s → r < l.p → ⊥
