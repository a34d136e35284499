use Rattle.std.proofs.Common.{◌≡◌, ◌≤◌, ◌<◌, ℕ, false, length, slice_get, Some}
use Rattle.invariants.specs.declared.Invariant.{Invariant}
use Rattle.bit_rows.specs.Tables.{HasShape}
use Rattle.labelling.specs.Layout.{is_on, row_count, IsFree, IsMarked}
use Rattle.labelling.proofs.marks.mark_all.Given as goal

abbrev pub invariant-loop-k : goal.invariant-loop-k
invariant-loop-k l =
    record {
      shape : HasShape l.rows (row_count l.bound) (length l.invs);
      marked : (j : ℕ) (inv : Invariant) → j < l.k → slice_get l.invs j ≡ Some inv → IsMarked l.bound l.rows j inv;
      blank : (r j : ℕ) → l.k ≤ j → is_on l.rows r j ≡ false;
      free : (r j : ℕ) → IsFree l.bound r → is_on l.rows r j ≡ false;
    }
