use Rattle.std.proofs.Common.{◌≡◌, map, drop}
use Rattle.line_rules.specs.Files.{first_time}
use Rattle.line_rules.specs.Views.{rule_view}
use Rattle.line_rules.proofs.build.first_time.Given as goal

abbrev pub invariant-loop-rule : goal.invariant-loop-rule
invariant-loop-rule l = first_time (map rule_view l.rules) ≡ first_time (map rule_view (drop l.rule-index l.rules))
