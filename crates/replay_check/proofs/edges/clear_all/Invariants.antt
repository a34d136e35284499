use Rattle.std.proofs.Common.{◌≡◌, ◌<◌, ℕ, false}
use Rattle.limits.specs.declared.TheConstants.{MAX_PARTITIONS}
use Rattle.bit_rows.specs.Tables.{HasShape}
use Rattle.replay_check.specs.Shown.{has_edge}
use Rattle.replay_check.proofs.edges.clear_all.Given as goal

abbrev pub invariant-loop-p : goal.invariant-loop-p
invariant-loop-p l =
    record {
      shape : HasShape l.rows MAX_PARTITIONS MAX_PARTITIONS;
      clear : (p q : ℕ) → p < l.p → has_edge l.rows p q ≡ false;
    }
