use Rattle.std.proofs.Common.{◌≡◌, ◌+◌, ◌<◌, ◌≤◌, ℕ, eqb}
use Rattle.std.specs.Int.{bit_at}
use Rattle.labelling.specs.Phases.{phase_at}
use Rattle.labelling.proofs.phase_rows.PhaseRows.swapped.Given as goal

abbrev pub invariant-loop-k : goal.invariant-loop-k
invariant-loop-k l =
    record {
      told : (j : ℕ) → j < l.k → eqb (bit_at l.swapped j) 1 ≡ eqb (phase_at l.self.invs.items (l.first + j) 0) 1;
      rest : (j : ℕ) → l.k ≤ j → bit_at l.swapped j ≡ 0;
    }
