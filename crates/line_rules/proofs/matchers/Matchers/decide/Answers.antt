use Rattle.std.proofs.Common.{rules, arith, ◌≤◌, slice_get, ◌≡◌, ◌<◌, ℕ, List, Option, Some, None, length, get_or, sym, ◌∙◌, ap, unwrap_or, drop, ◌+◌}
use Rattle.std.proofs.lemmas.List.{length-map}
use Rattle.line_rules.specs.Rules as spec
use Rattle.line_rules.specs.Rules.{decision_from, decided_by, decision_of}
use Rattle.line_rules.specs.Views.{matcher_rules, matched_rules, rule_view}
use Rattle.std.specs.Prelude.{Result}
use Rattle.line_rules.specs.declared.decision.Decision.{Decision}
use Rattle.line_rules.specs.declared.decision.DecideError.{DecideError}
use Rattle.line_rules.specs.declared.matchers.RuleMatcher.{RuleMatcher}
use Rattle.line_rules.proofs.Decided.{next-matcher, rules-kept, at-place, past-last}
use Rattle.line_rules.proofs.matchers.Matchers.decide.Goals as goal

-- one step of the loop, over plain values
step : (rs : List spec.Rule) (ms : List RuleMatcher) (i : ℕ) (m : RuleMatcher) (line : List ℕ) (answer : Option (Result Decision DecideError)) → i < length ms → m ≡ get_or ms i m
    → matcher_rules ms ≡ rs → decision_of rs line ≡ decision_from i (drop i rs) line → answer ≡ decided_by i (rule_view m.rule.now) line
    → decision_of rs line ≡ unwrap_or answer (decision_from (i + 1) (drop (i + 1) rs) line)
step rs ms i m line answer inside is views rest answered =
    rest ∙ (ap (λ ts. decision_from i (drop i ts) line) (sym views) ∙ (next-matcher ms i m line inside is
    ∙ (ap (λ ts. unwrap_or (decided_by i (rule_view m.rule.now) line) (decision_from (i + 1) (drop (i + 1) ts) line)) views
    ∙ ap (λ a. unwrap_or a (decision_from (i + 1) (drop (i + 1) rs) line)) (sym answered))))

pub loop-place-init : goal.loop-place-init
unfolding matched_rules
loop-place-init c = search rules

pub returns-in-Some-clause-value : goal.returns-in-Some-clause-value
unfolding matched_rules
returns-in-Some-clause-value c =
    let l = c.loop-place in
    sym (step (matcher_rules c.args.self.now.rules.items) l.self.rules.items l.place c.index_mut.result.now c.args.line.now (Some c.in-Some.answer) (search rules) c.index_mut.ensures.value
    l.invariant.rules l.invariant.rest c.in-Some.ensures.value)

pub returns-in-Some-clause-same : goal.returns-in-Some-clause-same
unfolding matched_rules
returns-in-Some-clause-same c =
    let ms : List RuleMatcher = c.loop-place.self.rules.items in
    rules-kept ms c.loop-place.place c.index_mut.result.now c.decide.new.self (search rules)
    (c.decide.ensures.same ∙ ap (λ (m : RuleMatcher). m.rule) c.index_mut.ensures.value) ∙ c.loop-place.invariant.rules

pub loop-place-preserved : goal.loop-place-preserved
unfolding matched_rules
loop-place-preserved c =
    let l = c.loop-place in
    let ms : List RuleMatcher = l.self.rules.items in
    record {
      rules = rules-kept ms l.place c.index_mut.result.now c.decide.new.self (search rules)
          (c.decide.ensures.same ∙ ap (λ (m : RuleMatcher). m.rule) c.index_mut.ensures.value) ∙ l.invariant.rules;
      len = search rules;
      rest = step (matcher_rules c.args.self.now.rules.items) ms l.place c.index_mut.result.now c.args.line.now None (search rules) c.index_mut.ensures.value
          l.invariant.rules l.invariant.rest (search rules);
    }

pub returns-in-Some-clause-parts : goal.returns-in-Some-clause-parts
unfolding matched_rules
returns-in-Some-clause-parts c =
    let l = c.loop-place in
    c.in-Some.ensures.parts (matcher_rules c.args.self.now.rules.items) (ap (λ rs. slice_get rs l.place) (sym l.invariant.rules) ∙ at-place l.self.rules.items l.place c.index_mut.result.now (search rules) c.index_mut.ensures.value)

pub returns-clause-value : goal.returns-clause-value
unfolding matched_rules
returns-clause-value c =
    let l = c.loop-place in
    let ms : List RuleMatcher = l.self.rules.items in
    let rs : List spec.Rule = matcher_rules c.args.self.now.rules.items in
    let count : length rs ≤ l.place = omega (arith, ap length l.invariant.rules, length-map ms (λ (n : RuleMatcher). rule_view n.rule.now)) in
    sym (l.invariant.rest ∙ past-last rs l.place c.args.line.now count)

pub returns-clause-same : goal.returns-clause-same
unfolding matched_rules
returns-clause-same c = c.loop-place.invariant.rules
