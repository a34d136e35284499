use Rattle.std.proofs.Common.{◌≡◌, ◌++◌, ◌∷◌, [], List, Result, Ok, Err, subst}
use Rattle.std.specs.Prelude.{IfOk, OnOk}
use Rattle.line_rules.specs.declared.rule.Rule.{Rule}
use Rattle.line_rules.specs.declared.matchers.RuleMatcher.{RuleMatcher}
use Rattle.line_rules.proofs.matchers.RuleMatcher.add.Goals as goal

-- what was made is the value that was added
of-rule : {A B E : Type 0} (made : Result RuleMatcher A) (pushed : Result B E) (old new : List RuleMatcher) (rule : Rule) → IfOk made (λ m. m.rule.now ≡ rule)
    → OnOk pushed ((m : RuleMatcher) × (new ≡ old ++ m ∷ []) × (made ≡ Ok m)) → OnOk pushed ((m : RuleMatcher) × (new ≡ old ++ m ∷ []) × (m.rule.now ≡ rule))
of-rule made (Ok x) old new rule is added = (added.0, added.1, subst (λ r. IfOk r (λ m. m.rule.now ≡ rule)) added.2 is)
of-rule made (Err e) old new rule is added = tt

pub returns-clause-added : goal.returns-clause-added
returns-clause-added c = of-rule c.make.result c.push_made.result c.args.matchers.now.items c.push_made.new.list.items c.args.rule.now c.make.ensures c.push_made.ensures.added
