use Rattle.std.proofs.Common.{Some, ℕ, Option, ◌∙◌, ap, ap₂, option_and_then}
use Rattle.line_rules.specs.Rules.{span_of}
use Rattle.line_rules.specs.declared.spans.Spans.{Spans}
use Rattle.line_rules.proofs.Groups.{spans-of-match}
use Rattle.line_rules.proofs.spans.spans_in.Goals as goal

pub returns-clause-found : goal.returns-clause-found
returns-clause-found c =
    let found = c.in_ok-captures.ensures.found in
    let captures = c.in_ok-captures.captures in
    let spans = spans-of-match c.args.line.now found.0 captures found.2 in
    let r = c.args.rule.now in
    let P : Option (ℕ × ℕ) → Option (ℕ × ℕ) → Option (ℕ × ℕ) → Option Spans = λ a b t. Some (record { typ = a; trace = b; time = t }) in
    let typ = c.span_of_group-typ.ensures.value ∙ spans r.type_group in
    let trace = c.span_of_group-trace.ensures.value ∙ spans r.trace_group in
    let time = c.span_of_group-time.ensures.value ∙ spans r.time_group in
    rw found.1 (ap₂ (λ a b. P a b c.span_of_group-time.result) typ trace ∙ ap (λ t. P (option_and_then (span_of found.0) r.type_group) (option_and_then (span_of found.0) r.trace_group) t) time)
