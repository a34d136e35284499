use Rattle.std.proofs.Common.{rules}
use Rattle.line_rules.proofs.rule.Rule.decided_at.Goals as goal

pub returns-in-EventOf : goal.returns-in-EventOf
returns-in-EventOf c = search rules
