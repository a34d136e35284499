use Rattle.std.proofs.Common.{◌≡◌, ◌≢◌, ◌↔◌, ℕ, true, length}
use Rattle.bit_rows.specs.Tables.{row_at, KeepsShape}
use Rattle.labelling.specs.declared.layout.TheConstants.{BROKEN_ROW}
use Rattle.labelling.specs.Layout.{is_on}
use Rattle.labelling.proofs.Passing.{IsBadBelow}
use Rattle.labelling.proofs.carrying.note_broken.Given as goal

abbrev pub invariant-loop-state : goal.invariant-loop-state
invariant-loop-state l =
    record {
      count : length l.rows ≡ length l.fn.rows;
      shape : KeepsShape l.fn.rows l.rows;
      broken : (k : ℕ) → (is_on l.rows BROKEN_ROW k ≡ true) ↔ IsBadBelow l.bound l.fn.rows k l.state;
      others : (r : ℕ) → r ≢ BROKEN_ROW → row_at l.rows r ≡ row_at l.fn.rows r;
    }
