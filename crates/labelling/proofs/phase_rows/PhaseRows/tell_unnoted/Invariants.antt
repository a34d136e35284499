use Rattle.std.proofs.Common.{◌≡◌, ◌*◌, ◌<◌, ℕ, false, not, length, get_or}
use Rattle.labelling.specs.declared.layout.TheConstants.{BROKEN_ROW}
use Rattle.labelling.specs.Layout.{is_on}
use Rattle.labelling.proofs.phase_rows.PhaseRows.tell_unnoted.Given as goal

abbrev pub invariant-loop-place : goal.invariant-loop-place
invariant-loop-place l =
    record {
      size : length l.flags ≡ length l.fn.flags;
      told : (j : ℕ) → j < l.place * 64 → j < length l.flags → get_or l.flags j false ≡ not (is_on l.self.rows BROKEN_ROW j);
    }
