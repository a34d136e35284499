-- What each step of reading an expressions file leaves: one line, then all lines.
use Rattle.std.specs.Prelude.{ℕ, ◌≡◌, ◌<◌, ◌⊎◌, IsTrue, IsFalse, List, [], ◌∷◌, ◌++◌, length, Some, Ok, Err}
use Rattle.limits.specs.declared.TheConstants.{MAX_RULES}
use Rattle.line_rules.specs.Patterns.{PatternsState, Rose, NestsTooDeep}
use Rattle.line_rules.specs.Rules.{RuleForm, Rule, Alike, AreAlike}
use Rattle.line_rules.specs.Files.{spelled_by, is_skipped, rule_at, rules_from, rule_lines, IsBuilt}
use Rattle.line_rules.specs.declared.line_rules.RuleError.{RuleError}
use Rattle.line_rules.specs.declared.patterns.BuildFault.{BuildFault}
use Rattle.line_rules.specs.declared.patterns.BuildFault.TheVariants.{Syntax, TooLarge, Memory}
use Rattle.line_rules.specs.declared.line_rules.RuleError.TheVariants as refused

-- the rule is that of a line with its number after these rules, or one that searches alike
pub record IsRuleOf (rules : List Rule) (number : ℕ) (line : List ℕ) (rule : Rule) : Type 0 where
  pub plain : Rule
  pub read : rule_at rules (number, line) ≡ Ok plain
  pub alike : Alike rule plain

-- the pattern of a line after these rules is built, and this holds of the pattern
pub record Builds (rules : List Rule) (line : List ℕ) (Holds : List ℕ → Type 0) : Type 0 where
  pub few : length rules < MAX_RULES
  pub form : RuleForm
  pub pattern : List ℕ
  pub spelled : spelled_by line ≡ Some (form, pattern)
  pub holds : Holds pattern

-- why a line with its number is refused with this error after these rules
abbrev pub IsLineRefused : PatternsState → PatternsState → List Rule → ℕ → List ℕ → RuleError → Type 0
IsLineRefused old new rules number line refused.Memory = Unit {0}
IsLineRefused old new rules number line (refused.Syntax at) =
    (at ≡ number)
    × ((rule_at rules (number, line) ≡ Err (refused.Syntax number)) ⊎ Builds rules line NestsTooDeep)
IsLineRefused old new rules number line (refused.TooLarge at) =
    (at ≡ number) × Rose old.refusals new.refusals
    × Builds rules line (λ pattern. IsTrue (old.may_refuse pattern))
IsLineRefused old new rules number line refused.TooLong = ⊥
IsLineRefused old new rules number line refused.NoEvent = ⊥
IsLineRefused old new rules number line plain = rule_at rules (number, line) ≡ Err plain

-- the refusal of a line with this number whose pattern is not built
abbrev pub not_built : ℕ → BuildFault → RuleError
not_built number Syntax = refused.Syntax number
not_built number TooLarge = refused.TooLarge number
not_built number Memory = refused.Memory

-- a line with its number adds no rule if it is skipped, and its own rule if not
abbrev pub AddsLine : ℕ → List ℕ → List Rule → List Rule → Type 0
AddsLine number line rules new =
    (IsTrue (is_skipped line) × (new ≡ rules))
    ⊎ (IsFalse (is_skipped line)
    × ((rule : Rule) × (new ≡ rules ++ rule ∷ []) × IsRuleOf rules number line rule))

-- the rules are those of all lines, or ones that search alike
pub record AreRulesOf (bytes : List ℕ) (rules : List Rule) : Type 0 where
  pub plain : List Rule
  pub read : rules_from [] (rule_lines bytes) ≡ Ok plain
  pub alike : AreAlike rules plain

-- the pattern of the line with this number is built, and this holds of the pattern
pub record BuildsAt (bytes : List ℕ) (number : ℕ) (Holds : List ℕ → Type 0) : Type 0 where
  pub pattern : List ℕ
  pub built : IsBuilt bytes number pattern
  pub holds : Holds pattern

-- why one of the lines is refused with this error
abbrev pub AreLinesRefused : List ℕ → PatternsState → PatternsState → RuleError → Type 0
AreLinesRefused bytes old new refused.Memory = Unit {0}
AreLinesRefused bytes old new (refused.Syntax at) =
    (rules_from [] (rule_lines bytes) ≡ Err (refused.Syntax at)) ⊎ BuildsAt bytes at NestsTooDeep
AreLinesRefused bytes old new (refused.TooLarge at) = Rose old.refusals new.refusals
    × BuildsAt bytes at (λ pattern. IsTrue (old.may_refuse pattern))
AreLinesRefused bytes old new refused.TooLong = ⊥
AreLinesRefused bytes old new refused.NoEvent = ⊥
AreLinesRefused bytes old new plain = rules_from [] (rule_lines bytes) ≡ Err plain
