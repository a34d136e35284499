use Rattle.std.proofs.Common.{List, arith, sym, ap, ◌∙◌, map}
use Rattle.std.specs.List.{list_any}
use Rattle.line_rules.specs.Files.{is_event}
use Rattle.line_rules.specs.Views.{rules_in, rule_view}
use Rattle.line_rules.specs.declared.rule.Rule.{Rule}
use Rattle.line_rules.proofs.Lines.{file-read, no-event}
use Rattle.line_rules.proofs.line_rules.LineRules.read.Goals as goal

pub returns-then-not-has_event-clause-err : goal.returns-then-not-has_event-clause-err
returns-then-not-has_event-clause-err g c =
    let any = ap (λ (rs : List Rule). list_any (λ rule. is_event rule.form) (map rule_view rs)) (sym c.deref.ensures.value) ∙ (sym c.has_event.ensures ∙ c.if-not-has_event.true) in
    no-event c.args.bytes.now (map rule_view c.in_ok-rules.rules.items) (omega arith) c.in_ok-rules.ensures.ok any

pub returns-clause-ok : goal.returns-clause-ok
unfolding rules_in
returns-clause-ok g c =
    let any = ap (λ (rs : List Rule). list_any (λ rule. is_event rule.form) (map rule_view rs)) (sym c.deref.ensures.value) ∙ (sym c.has_event.ensures ∙ c.if-not-has_event.false) in
    file-read c.args.bytes.now (map rule_view c.in_ok-rules.rules.items) (omega arith) c.in_ok-rules.ensures.ok any
