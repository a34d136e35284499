use Rattle.std.proofs.Common.{not, ap, ap₂, ◌∙◌, arith}
use Rattle.invariants.specs.declared.records.Listed.{Listed}
use Rattle.model_file.specs.Lists.{invariant_key}
use Rattle.model_file.specs.Rules.{pair_less}
use Rattle.model_file.proofs.Rising.{falls-short, falls-last}
use Rattle.model_file.proofs.caps.InvariantsBoundListed.is_over.Goals as goal

pub returns-in_default : goal.returns-in_default
returns-in_default c = falls-short (λ (l : Listed). invariant_key l.inv) c.args.entries.now (omega (arith, c.in_default.len_below))

pub returns : goal.returns
returns c =
    ap not (c.is_less.ensures ∙ ap₂ pair_less c.invariant_key.ensures c.invariant_key-2.ensures)
    ∙ falls-last (λ (l : Listed). invariant_key l.inv) c.args.entries.now c.before-item.result c.last-item.result (omega (arith, c.in-len2-up.len_at_least)) c.before-item.is c.last-item.is
