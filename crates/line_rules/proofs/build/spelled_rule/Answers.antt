use Rattle.std.proofs.Common.{rules}
use Rattle.line_rules.proofs.build.spelled_rule.Goals as goal

pub returns-clause-few : goal.returns-clause-few
returns-clause-few c = search rules
