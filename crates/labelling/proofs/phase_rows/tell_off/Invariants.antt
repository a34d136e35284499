use Rattle.std.proofs.Common.{◌≡◌, ◌+◌, ◌<◌, ℕ, eqb, false, not, length, get_or}
use Rattle.std.specs.Int.{bit_at}
use Rattle.labelling.proofs.phase_rows.tell_off.Given as goal

abbrev pub invariant-loop-k : goal.invariant-loop-k
invariant-loop-k l =
    record {
      size : length l.flags ≡ length l.fn.flags;
      told : (j : ℕ) → j < l.k → get_or l.flags (l.first + j) false ≡ not (eqb (bit_at l.word j) 1);
      others : (j : ℕ) → j < l.first → get_or l.flags j false ≡ get_or l.fn.flags j false;
    }
