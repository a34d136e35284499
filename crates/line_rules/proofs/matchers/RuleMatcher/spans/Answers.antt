use Rattle.std.proofs.Common.{ap, ap₂, ◌∙◌, Bor, option_map}
use Rattle.regex.specs.Patterns.{Re, find_str}
use Rattle.line_rules.specs.Views.{spans_of}
use Rattle.line_rules.specs.declared.rule.Rule.{Rule}
use Rattle.line_rules.proofs.matchers.RuleMatcher.spans.Goals as goal

pub returns-clause-found : goal.returns-clause-found
returns-clause-found c =
    c.spans_in-spans.ensures.found
    ∙ ap₂ (λ (r : Rule) (re : Re). option_map (spans_of r) (find_str re c.args.line.now 0)) (ap (λ (r : Bor Rule). r.now) c.is_miss.ensures.same) c.is_miss.ensures.pattern
