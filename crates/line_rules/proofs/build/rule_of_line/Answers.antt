use Rattle.std.proofs.Common.{◌∙◌, Err, ap, arith, map, subst}
use Rattle.std.proofs.lemmas.List.{length-map}
use Rattle.std.specs.Prelude.{IsSomeAnd}
use Rattle.line_rules.specs.Rules as spec
use Rattle.line_rules.specs.Rules.{rule_of, Alike}
use Rattle.line_rules.specs.Views.{word_view, rule_view}
use Rattle.line_rules.specs.declared.patterns.BuildFault.{BuildFault}
use Rattle.line_rules.proofs.Line.{line-refused, line-unbuilt, tested-rule, tested-refused}
use Rattle.line_rules.proofs.build.rule_of_line.Goals as goal

pub returns-in-Err-clause-err : goal.returns-in-Err-clause-err
returns-in-Err-clause-err g c =
    let state = g.P.Patterns.state c.args.patterns.now in
    line-refused state state (map rule_view c.args.rules.now) c.args.number c.args.line.now c.in-Err.error c.in-Err.ensures.err

pub returns-in-Err-build_rule-clause-err : goal.returns-in-Err-build_rule-clause-err
returns-in-Err-build_rule-clause-err g c =
    let fault = c.in-Err-build_rule.fault in
    let ensures = c.build_rule.ensures in
    rw c.not_built.ensures (line-unbuilt (g.P.Patterns.state c.args.patterns.now) (g.P.Patterns.state c.build_rule.new.patterns) (map rule_view c.args.rules.now) c.args.number c.args.line.now
    (word_view c.in-Ok.parts.0) c.in-Ok.parts.1.now fault c.in-Ok.ensures.parts (omega (arith, c.in-Ok.ensures.few, length-map c.args.rules.now rule_view))
    (λ is. ensures.syntax (c.in-Err-build_rule.is ∙ ap (λ (f : BuildFault). Err f) is)) (λ is. ensures.large (c.in-Err-build_rule.is ∙ ap (λ (f : BuildFault). Err f) is)))

pub returns-clause-ok : goal.returns-clause-ok
returns-clause-ok g c =
    let pattern = c.in-Ok.parts.1.now in
    let rule = c.in-Ok-build_rule.rule in
    let built : IsSomeAnd (rule_of (word_view c.in-Ok.parts.0) pattern) (Alike (rule_view rule)) =
    subst (λ (f : spec.RuleForm). IsSomeAnd (rule_of f pattern) (Alike (rule_view rule))) c.in_ok-form.ensures c.in-Ok-build_rule.ensures.rule in
    rw c.and.ensures (tested-rule (map rule_view c.args.rules.now) c.args.number c.args.line.now (word_view c.in-Ok.parts.0) pattern rule c.in-Ok.ensures.parts
    (omega (arith, c.in-Ok.ensures.few, length-map c.args.rules.now rule_view)) built c.test_groups.result c.test_groups.ensures.ok)

pub returns-clause-err : goal.returns-clause-err
returns-clause-err g c =
    let pattern = c.in-Ok.parts.1.now in
    let rule = c.in-Ok-build_rule.rule in
    let built : IsSomeAnd (rule_of (word_view c.in-Ok.parts.0) pattern) (Alike (rule_view rule)) =
    subst (λ (f : spec.RuleForm). IsSomeAnd (rule_of f pattern) (Alike (rule_view rule))) c.in_ok-form.ensures c.in-Ok-build_rule.ensures.rule in
    rw c.and.ensures (tested-refused (map rule_view c.args.rules.now) c.args.number c.args.line.now (word_view c.in-Ok.parts.0) pattern rule c.in-Ok.ensures.parts
    (omega (arith, c.in-Ok.ensures.few, length-map c.args.rules.now rule_view)) built (g.P.Patterns.state c.args.patterns.now) (g.P.Patterns.state c.build_rule.new.patterns) c.test_groups.result
    c.test_groups.ensures.err)
