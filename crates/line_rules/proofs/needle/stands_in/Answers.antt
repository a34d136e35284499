use Rattle.std.proofs.Common.{sym, ◌∙◌}
use Rattle.line_rules.proofs.Lacking.{lacks-told}
use Rattle.line_rules.proofs.needle.stands_in.Goals as goal

pub returns-clause-lacks : goal.returns-clause-lacks
returns-clause-lacks c = λ is. lacks-told c.args.line.now c.args.needle.now c.find.result c.find.ensures (sym c.is_some.ensures ∙ is)
