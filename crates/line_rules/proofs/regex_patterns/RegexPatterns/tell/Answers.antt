use Rattle.std.proofs.Common.{rules}
use Rattle.line_rules.proofs.regex_patterns.RegexPatterns.tell.Goals as goal

pub returns-in-Err-CompiledTooBig-clause-tells : goal.returns-in-Err-CompiledTooBig-clause-tells
returns-in-Err-CompiledTooBig-clause-tells c = search rules

pub returns-in-Ok-clause-tells : goal.returns-in-Ok-clause-tells
returns-in-Ok-clause-tells c = search rules
