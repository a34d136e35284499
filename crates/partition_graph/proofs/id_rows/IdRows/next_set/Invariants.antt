use Rattle.std.proofs.Common.{◌≡◌, ℕ, ◌+◌, ◌-◌, ◌*◌, ◌/◌, ◌<◌, ◌≤◌, false}
use Rattle.bit_rows.specs.Tables.{row_at, is_set}
use Rattle.partition_graph.specs.declared.id_rows.TheConstants.{ID_WORDS}
use Rattle.partition_graph.proofs.id_rows.IdRows.next_set.Given as goal

abbrev pub invariant-loop-place : goal.invariant-loop-place
invariant-loop-place l =
    record {
      low : l.from / 64 + 1 ≤ l.place;
      high : l.place ≤ ID_WORDS;
      none : (i : ℕ) → l.from ≤ i → i < l.place * 64 → is_set (row_at l.self-inside.rows l.r) i ≡ false;
    }

abbrev pub decreases-loop-place : goal.decreases-loop-place
decreases-loop-place l = ID_WORDS - l.place
