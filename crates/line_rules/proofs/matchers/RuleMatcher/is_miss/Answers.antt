use Rattle.std.proofs.Common.{sym, ◌∙◌}
use Rattle.std.proofs.lemmas.Bool.{not-true}
use Rattle.regex.specs.Patterns.{find_str}
use Rattle.regex.specs.Strings.{matcher_pattern}
use Rattle.line_rules.proofs.Lacking.{none-found}
use Rattle.line_rules.proofs.matchers.RuleMatcher.is_miss.Goals as goal

pub returns-clause-miss : goal.returns-clause-miss
returns-clause-miss c = λ is.
    none-found (find_str (matcher_pattern c.args.self.now.matcher) c.args.line.now 0) (sym c.is_match.ensures.found ∙ not-true c.is_match.result is)
