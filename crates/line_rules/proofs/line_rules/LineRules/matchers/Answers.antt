use Rattle.std.proofs.Common.{◌∙◌, arith}
use Rattle.line_rules.specs.Views.{rules_in, matched_rules}
use Rattle.line_rules.proofs.Decided.{whole-view, one-more}
use Rattle.line_rules.proofs.line_rules.LineRules.matchers.Goals as goal

pub returns : goal.returns
unfolding rules_in matched_rules
returns c = c.loop-rule.invariant.made ∙ whole-view c.args.self.now.rules.items c.deref-rule-items.result.now c.loop-rule.rule-index c.deref-rule-items.ensures.value (omega arith)

pub loop-rule-preserved : goal.loop-rule-preserved
loop-rule-preserved c =
    let l = c.loop-rule in
    let added = c.in_ok-add.ensures.added in
    record {
      count = omega (arith, c.in_ok-add.ensures.len, l.invariant.count);
      made = one-more l.matchers.items c.add.new.matchers.items c.deref-rule-items.result.now l.rule-index added.0 c.rule-item.result l.invariant.made (omega arith) c.rule-item.is
          added.2 added.1;
    }
