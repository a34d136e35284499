use Rattle.std.proofs.Common.{List, Bool, ap, ◌∙◌}
use Rattle.limits.specs.declared.TheConstants.{MAX_PARTITIONS}
use Rattle.bit_rows.specs.Tables.{row_at, is_set}
use Rattle.model_check.specs.declared.sets.TheConstants.{ROWS}
use Rattle.model_check.proofs.Bits.{this-row, other-row}
use Rattle.model_check.proofs.rows.IdRows.copy.Goals as goal

pub returns-clause-row : goal.returns-clause-row
returns-clause-row c = λ k.
    ap (λ (t : List (List Bool)). is_set (row_at t c.args.to) k) c.copy_into.ensures.rows
    ∙ this-row c.args.self.now.bits ROWS MAX_PARTITIONS c.args.to c.args.self.now.shape c.requires.to_row (row_at c.args.self.now.bits c.args.from) k

pub returns-clause-others : goal.returns-clause-others
returns-clause-others c = λ s k n.
    ap (λ (t : List (List Bool)). is_set (row_at t s) k) c.copy_into.ensures.rows
    ∙ other-row c.args.self.now.bits ROWS MAX_PARTITIONS c.args.to c.args.self.now.shape c.requires.to_row _ s k n
