use Rattle.std.proofs.Common.{refl, sym, ◌∙◌, subst, Option}
use Rattle.std.proofs.lemmas.Str.{IsCharBoundary-start}
use Rattle.std.specs.Prelude.{IfSome, IfOk, Result}
use Rattle.line_rules.specs.Rules.{HasParts, time_by}
use Rattle.line_rules.specs.Views.{form_view, rule_view}
use Rattle.line_rules.specs.declared.decision.Decision.{Decision}
use Rattle.line_rules.specs.declared.decision.DecideError.{DecideError}
use Rattle.std.proofs.Props.{props}
use Rattle.std.proofs.Math.Logic.{∥∥₁_elim}
use Rattle.regex.specs.Strings.{matcher_pattern}
use Rattle.line_rules.proofs.Decided.{decided-when, decided-parts}
use Rattle.line_rules.proofs.matchers.RuleMatcher.decide.Goals as goal

pub returns-in_err-spans-clause-value : goal.returns-in_err-spans-clause-value
returns-in_err-spans-clause-value c =
    let self = c.args.self.now in
    ∥∥₁_elim self.same (Prim.hlevel props) (λ e. c.from_residual.ensures ∙ sym (decided-when c.args.number self.rule.now (matcher_pattern self.matcher) c.args.line.now _ e c.in_err-spans.ensures.found))

pub returns-clause-value : goal.returns-clause-value
returns-clause-value c =
    let self = c.args.self.now in
    ∥∥₁_elim self.same (Prim.hlevel props) (λ e. c.decided_at.ensures ∙ sym (decided-when c.args.number self.rule.now (matcher_pattern self.matcher) c.args.line.now _ e c.in_ok-spans.ensures.found))

pub returns-clause-parts : goal.returns-clause-parts
returns-clause-parts c = λ rules at.
    let spans = c.in_ok-spans.spans in
    let within = c.in_ok-spans.ensures.within in
    let r = c.args.self.now.rule.now in
    subst (λ (d : Option (Result Decision DecideError)). IfSome d (λ answer. IfOk answer (HasParts rules c.args.line.now))) (sym c.decided_at.ensures)
    (decided-parts rules c.args.line.now (IsCharBoundary-start c.args.line.now c.utf8.line) c.args.number (rule_view r) (form_view r.form) at refl spans.typ spans.trace
    (time_by r.time_group c.args.line.now spans.time) within.0 within.1)
