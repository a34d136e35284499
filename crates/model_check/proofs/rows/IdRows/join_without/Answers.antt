use Rattle.std.proofs.Common.{List, Bool, ap, ◌∙◌}
use Rattle.limits.specs.declared.TheConstants.{MAX_PARTITIONS}
use Rattle.bit_rows.specs.Tables.{row_at, is_set}
use Rattle.model_check.specs.declared.sets.TheConstants.{ROWS}
use Rattle.model_check.proofs.Bits.{join-without-bit, other-row}
use Rattle.model_check.proofs.rows.IdRows.join_without.Goals as goal

pub returns-clause-row : goal.returns-clause-row
returns-clause-row c = λ k.
    ap (λ (t : List (List Bool)). is_set (row_at t c.args.to) k) c.or_and_not_into.ensures.rows
    ∙ join-without-bit c.args.self.now.bits ROWS MAX_PARTITIONS c.args.to c.args.self.now.shape c.requires.to_row c.args.a c.args.b k c.requires.a_row c.requires.b_row

pub returns-clause-others : goal.returns-clause-others
returns-clause-others c = λ s k n.
    ap (λ (t : List (List Bool)). is_set (row_at t s) k) c.or_and_not_into.ensures.rows
    ∙ other-row c.args.self.now.bits ROWS MAX_PARTITIONS c.args.to c.args.self.now.shape c.requires.to_row _ s k n

pub invariant_of-self : goal.invariant_of-self
invariant_of-self c = record { shape = c.or_and_not_into.ensures.shape ROWS MAX_PARTITIONS c.args.self.now.shape }
