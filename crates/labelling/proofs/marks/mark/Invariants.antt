use Rattle.std.proofs.Common.{◌≡◌, ◌≢◌, ◌≤◌, ◌<◌, ◌==◌, ℕ, false}
use Rattle.invariants.specs.Monitors.{is_bad}
use Rattle.bit_rows.specs.Tables.{KeepsShape}
use Rattle.labelling.specs.declared.layout.TheConstants.{STATES, MOVE_ROWS}
use Rattle.labelling.specs.Layout.{is_on, bad_row, first_row, IsFree}
use Rattle.labelling.specs.Phases.{first_phase}
use Rattle.labelling.proofs.marks.mark.Given as goal

abbrev pub invariant-loop-phase : goal.invariant-loop-phase
invariant-loop-phase l =
    record {
      shape : KeepsShape l.fn.rows l.rows;
      bad : (s : ℕ) → s < l.phase → is_on l.rows (bad_row s) l.k ≡ is_bad l.inv s;
      off : (s : ℕ) → l.phase ≤ s → s < STATES → is_on l.rows (bad_row s) l.k ≡ false;
      first : (s : ℕ) → s < STATES → is_on l.rows (first_row s) l.k ≡ (first_phase l.inv == s);
      moves : (r : ℕ) → MOVE_ROWS ≤ r → is_on l.rows r l.k ≡ false;
      free : (r : ℕ) → IsFree l.bound r → is_on l.rows r l.k ≡ false;
      others : (r j : ℕ) → j ≢ l.k → is_on l.rows r j ≡ is_on l.fn.rows r j;
    }
