use Rattle.std.proofs.Common.{rules}
use Rattle.line_rules.proofs.build.mixes_time.Goals as goal

pub returns-in-Some : goal.returns-in-Some
returns-in-Some c = search rules
