use Rattle.std.proofs.Common.{sym}
use Rattle.line_rules.proofs.Spelled.{no-text}
use Rattle.line_rules.proofs.spelling.spelled.Goals as goal

pub returns-in-Err-clause-parts : goal.returns-in-Err-clause-parts
returns-in-Err-clause-parts c = sym (no-text c.args.line.now c.in-Err.ensures.cases.0)
