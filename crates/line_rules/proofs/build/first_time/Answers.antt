use Rattle.std.proofs.Common.{Some, sym, ap, ◌∙◌}
use Rattle.line_rules.proofs.Scans.{time-here, time-later}
use Rattle.line_rules.proofs.build.first_time.Goals as goal

pub loop-rule-preserved : goal.loop-rule-preserved
loop-rule-preserved c =
    c.loop-rule.invariant ∙ time-later c.args.rules.now c.loop-rule.rule-index c.rule-item.result c.loop-rule-test.true c.rule-item.is (sym c.is_event.ensures ∙ c.if-is_event.false)

pub returns-then-is_event : goal.returns-then-is_event
returns-then-is_event c =
    ap Some c.has_time.ensures
    ∙ sym (c.loop-rule.invariant ∙ time-here c.args.rules.now c.loop-rule.rule-index c.rule-item.result c.loop-rule-test.true c.rule-item.is (sym c.is_event.ensures ∙ c.if-is_event.true))
