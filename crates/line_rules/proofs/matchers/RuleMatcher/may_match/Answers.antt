use Rattle.std.proofs.Common.{List, ℕ, subst}
use Rattle.regex.specs.Patterns.{find_str}
use Rattle.regex.specs.Strings.{regex_pattern}
use Rattle.line_rules.specs.Needles.{AreBytes, Lacks}
use Rattle.line_rules.proofs.Lacking.{none-found}
use Rattle.line_rules.proofs.matchers.RuleMatcher.may_match.Goals as goal

pub returns : goal.returns
returns c = λ is.
    let self = c.args.self.now in
    let rule = self.rule.now in
    let line : List ℕ = c.args.line.now in
    let bytes : AreBytes line = subst (λ (xs : List ℕ). AreBytes xs) c.as_bytes.ensures.value c.stands_in.ensures.bytes in
    let found : Lacks line self.finder = subst (λ (xs : List ℕ). Lacks xs self.finder) c.as_bytes.ensures.value (c.stands_in.ensures.lacks is) in
    let lacks : Lacks line rule.needle.items = subst (λ (n : List ℕ). Lacks line n) self.sought found in
    none-found (find_str (regex_pattern rule.regex) line 0) (rule.in_each line bytes lacks)
