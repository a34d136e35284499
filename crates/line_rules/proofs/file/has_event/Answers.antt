use Rattle.std.proofs.Common.{sym, ◌∙◌}
use Rattle.line_rules.proofs.Scans.{event-here, event-later}
use Rattle.line_rules.proofs.file.has_event.Goals as goal

pub loop-rule-preserved : goal.loop-rule-preserved
loop-rule-preserved c =
    c.loop-rule.invariant ∙ event-later c.args.rules.now c.loop-rule.rule-index c.rule-item.result c.loop-rule-test.true c.rule-item.is (sym c.is_event.ensures ∙ c.if-is_event.false)

pub returns-then-is_event : goal.returns-then-is_event
returns-then-is_event c =
    sym (c.loop-rule.invariant ∙ event-here c.args.rules.now c.loop-rule.rule-index c.rule-item.result c.loop-rule-test.true c.rule-item.is (sym c.is_event.ensures ∙ c.if-is_event.true))
