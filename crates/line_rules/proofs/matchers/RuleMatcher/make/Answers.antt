use Rattle.line_rules.proofs.matchers.RuleMatcher.make.Goals as goal

pub invariant_of-result-clause-same : goal.invariant_of-result-clause-same
invariant_of-result-clause-same c = ∣ c.in-Ok.ensures.pattern ∣₁
