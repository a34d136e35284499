use Rattle.std.proofs.Common.{◌≡◌, ◌++◌, ◌∷◌, [], List, ℕ, inr, false, ap, ◌∙◌, sym, subst, map}
use Rattle.std.proofs.lemmas.List.{map-append}
use Rattle.line_rules.specs.Files.{is_skipped}
use Rattle.line_rules.specs.Building.{AddsLine, IsRuleOf}
use Rattle.line_rules.specs.Views.{rule_view}
use Rattle.line_rules.specs.declared.rule.Rule.{Rule}
use Rattle.line_rules.proofs.file.add_line.Goals as goal

-- what a line adds that is not skipped, over plain values
added : (number : ℕ) (line : List ℕ) (rules new : List Rule) (rule : Rule) → is_skipped line ≡ false → new ≡ rules ++ rule ∷ [] → IsRuleOf (map rule_view rules) number line (rule_view rule)
    → AddsLine number line (map rule_view rules) (map rule_view new)
added number line rules new rule counts is of = inr (counts, (rule_view rule, ap (map rule_view) is ∙ map-append rule_view rules (rule ∷ []), of))

pub returns-clause-ok : goal.returns-clause-ok
returns-clause-ok g c =
    added c.args.number c.args.line.now c.args.rules.now.items c.push.new.self.items c.in_ok-rule.rule (sym c.is_comment.ensures ∙ c.if-is_comment.false) c.in_ok-push.ensures.items
    (subst (λ (rs : List Rule). IsRuleOf (map rule_view rs) c.args.number c.args.line.now (rule_view c.in_ok-rule.rule)) c.deref.ensures.value c.in_ok-rule.ensures.ok)
