use Rattle.std.proofs.Common.{◌≡◌, map, drop}
use Rattle.std.specs.List.{list_any}
use Rattle.line_rules.specs.Files.{is_event}
use Rattle.line_rules.specs.Views.{rule_view}
use Rattle.line_rules.proofs.file.has_event.Given as goal

abbrev pub invariant-loop-rule : goal.invariant-loop-rule
invariant-loop-rule l = list_any (λ rule. is_event rule.form) (map rule_view l.rules) ≡ list_any (λ rule. is_event rule.form) (map rule_view (drop l.rule-index l.rules))
