use Rattle.std.proofs.Common.{not, ap, ◌∙◌, arith}
use Rattle.invariants.specs.declared.records.Block.{Block}
use Rattle.model_file.proofs.Rising.{falls-short, falls-last}
use Rattle.model_file.proofs.caps.BlocksBoundBlock.is_over.Goals as goal

pub returns-in_default : goal.returns-in_default
returns-in_default c = falls-short (λ (b : Block). (b.p, b.q)) c.args.entries.now (omega (arith, c.in_default.len_below))

pub returns : goal.returns
returns c =
    ap not (c.is_less.ensures)
    ∙ falls-last (λ (b : Block). (b.p, b.q)) c.args.entries.now c.before-item.result c.last-item.result (omega (arith, c.in-len2-up.len_at_least)) c.before-item.is c.last-item.is
