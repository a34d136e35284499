use Rattle.std.proofs.Common.{List, Bool, ap, ◌∙◌}
use Rattle.limits.specs.declared.TheConstants.{MAX_PARTITIONS}
use Rattle.bit_rows.specs.Tables.{row_at, is_set}
use Rattle.model_check.specs.declared.sets.TheConstants.{ROWS}
use Rattle.model_check.proofs.Bits.{no-bit}
use Rattle.model_check.proofs.rows.IdRows.make.Goals as goal

pub returns : goal.returns
returns c = λ r k. ap (λ (t : List (List Bool)). is_set (row_at t r) k) c.in_ok-bits.ensures.rows ∙ no-bit ROWS MAX_PARTITIONS r k
