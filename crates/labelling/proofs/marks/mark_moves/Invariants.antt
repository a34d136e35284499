use Rattle.std.proofs.Common.{◌≡◌, ◌≤◌, ◌<◌, ◌+◌, ℕ, false}
use Rattle.bit_rows.specs.Tables.{KeepsShape}
use Rattle.labelling.specs.declared.layout.TheConstants.{MOVES}
use Rattle.labelling.specs.Layout.{is_on, is_move, moves_row, IsApart}
use Rattle.labelling.proofs.marks.mark_moves.Given as goal

abbrev pub invariant-loop-place : goal.invariant-loop-place
invariant-loop-place l =
    record {
      shape : KeepsShape l.fn.rows l.rows;
      moves : (m : ℕ) → m < l.place → is_on l.rows (moves_row l.typ + m) l.k ≡ is_move l.fn.inv l.typ m;
      off : (m : ℕ) → l.place ≤ m → m < MOVES → is_move l.fn.inv l.typ m ≡ false → is_on l.rows (moves_row l.typ + m) l.k ≡ false;
      others : (r j : ℕ) → IsApart l.typ l.k r j → is_on l.rows r j ≡ is_on l.fn.rows r j;
    }
