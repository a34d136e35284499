use Rattle.std.proofs.Common.{◌≡◌, ◌≤◌, ◌*◌, ◌^◌, ℕ}
use Rattle.partition_model.specs.Assignments.{G}
use Rattle.coarsener.specs.Fitting.{fall_to, sum_below}
use Rattle.coarsener.proofs.ranks.falls_of.Given as goal

abbrev pub invariant-loop-p : goal.invariant-loop-p
invariant-loop-p l =
    record {
      value : l.falls ≡ sum_below (λ (u : ℕ). fall_to l.ranks (G l.graph.traces) u l.graph.used) l.p;
      within : l.falls ≤ l.p * 2 ^ 32;
    }
