use Rattle.std.proofs.Common.{◌≤◌, ◌<◌, ℕ}
use Rattle.partition_model.specs.Assignments.{G}
use Rattle.partition_model.specs.Coarsening.{IsPair}
use Rattle.coarsener.proofs.pairs.next_partner.Given as goal

abbrev pub invariant-loop-q : goal.invariant-loop-q
invariant-loop-q l = (r : ℕ) → l.from ≤ r → r < l.q → IsPair (G l.graph.traces) l.p r → ⊥
