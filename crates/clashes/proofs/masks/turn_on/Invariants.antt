use Rattle.std.proofs.Common.{◌≡◌, ◌≢◌, ◌<◌, ℕ, true}
use Rattle.bit_rows.specs.Tables.{KeepsShape}
use Rattle.clashes.specs.Marks.{on}
use Rattle.clashes.proofs.masks.turn_on.Given as goal

abbrev pub invariant-loop-k : goal.invariant-loop-k
invariant-loop-k l =
    record {
      shape : KeepsShape l.fn.rows l.rows;
      here : (k : ℕ) → k < l.k → on l.rows l.r k ≡ true;
      others : (s k : ℕ) → s ≢ l.r → on l.rows s k ≡ on l.fn.rows s k;
    }
