use Rattle.std.proofs.Common.{◌≡◌, ◌≤◌, ◌<◌, ◌+◌, ℕ, false, length}
use Rattle.bit_rows.specs.Tables.{HasShape}
use Rattle.clashes.specs.declared.places.TheConstants.{FIRST_MASK}
use Rattle.clashes.specs.Layout.{ids_from, row_count, AreColumns, IsIdle}
use Rattle.clashes.specs.Marks.{on}
use Rattle.clashes.proofs.masks.put_columns.Given as goal

abbrev pub invariant-loop-k : goal.invariant-loop-k
invariant-loop-k l =
    record {
      shape : HasShape l.rows (row_count l.others) (length l.invs);
      columns : AreColumns l.rows l.others l.invs l.k;
      idle : (j : ℕ) → l.k ≤ j → j < length l.invs → IsIdle l.rows (l.others + 1) j;
      blank : (r j : ℕ) → l.k ≤ j → r < FIRST_MASK → on l.rows r j ≡ false;
      ids : (r j : ℕ) → ids_from l.others ≤ r → on l.rows r j ≡ false;
    }
