use Rattle.std.proofs.Common.{List, Bool, ap, ◌∙◌}
use Rattle.limits.specs.declared.TheConstants.{MAX_PARTITIONS}
use Rattle.bit_rows.specs.Tables.{row_at, is_set}
use Rattle.model_check.specs.declared.sets.TheConstants.{ROWS}
use Rattle.model_check.proofs.Bits.{put-bit}
use Rattle.model_check.proofs.rows.IdRows.put.Goals as goal

pub returns : goal.returns
returns c = λ s k.
    ap (λ (t : List (List Bool)). is_set (row_at t s) k) c.put.ensures.rows
    ∙ put-bit c.args.self.now.bits ROWS MAX_PARTITIONS c.args.r c.args.self.now.shape c.requires.row c.args.p c.requires.id s k
