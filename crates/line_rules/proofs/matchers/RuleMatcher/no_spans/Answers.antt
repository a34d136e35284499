use Rattle.std.proofs.Common.{sym, ◌∙◌}
use Rattle.regex.specs.Patterns.{find_str}
use Rattle.regex.specs.Strings.{matcher_pattern}
use Rattle.line_rules.proofs.Groups.{spans-of-no-group}
use Rattle.line_rules.proofs.matchers.RuleMatcher.no_spans.Goals as goal

pub returns-clause-found : goal.returns-clause-found
returns-clause-found c =
    spans-of-no-group c.args.self.now.rule.now (find_str (matcher_pattern c.args.self.now.matcher) c.args.line.now 0) c.requires (sym c.is_match.ensures.found ∙ c.if-not-is_match.false)
