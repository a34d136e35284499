use Rattle.std.proofs.Common.{◌≡◌, ◌+◌, ◌≤◌, length, map, vec_len}
use Rattle.limits.specs.declared.TheConstants.{MAX_RULES}
use Rattle.line_rules.specs.Patterns.{Stays}
use Rattle.line_rules.specs.Views.{rule_view}
use Rattle.line_rules.proofs.Lines.{ReadTo}
use Rattle.line_rules.proofs.file.read_rules.Given as goal

abbrev pub invariant-loop-rest : goal.invariant-loop-rest
invariant-loop-rest g l = record {
  counted : l.number + length l.rest ≤ length l.bytes;
  few : vec_len l.rules ≤ MAX_RULES;
  stays : Stays (g.P.Patterns.state l.fn.patterns) (g.P.Patterns.state l.patterns);
  count : (g.P.Patterns.state l.patterns).refusals ≡ (g.P.Patterns.state l.fn.patterns).refusals;
  read : ReadTo l.bytes l.number l.rest (map rule_view l.rules.items);
}

abbrev pub decreases-loop-rest : goal.decreases-loop-rest
decreases-loop-rest g l = length l.rest
