-- The rule of a line, from its spelling and what was built.
use Rattle.std.proofs.Common.{◌≡◌, ◌<◌, ◌&&◌, ◌⊎◌, inl, inr, ⊎_elim, ℕ, Bool, true, false, cond, List, Option, Some, None, codes, is_none, is_some, refl, ap, ap₂, sym, subst, ◌∙◌, nat_le, Result, Ok, Err, length}
use Rattle.std.specs.Prelude.{IfOk, IfErr, OnOk, IsSomeAnd, IsTrue}
use Rattle.std.specs.Result.{result_and}
use Rattle.std.specs.Option.{option_map_or}
use Rattle.std.proofs.lemmas.Bool.{lt-leb}
use Rattle.limits.specs.declared.TheConstants.{MAX_RULES}
use Rattle.line_rules.specs.Patterns.{PatternsState, Rose, IsNoPattern, NestsTooDeep}
use Rattle.line_rules.specs.Rules as spec
use Rattle.line_rules.specs.Rules.{rule_of, group_named, Alike}
use Rattle.line_rules.specs.Files.{spelled_by, rule_at, rule_spelled, rule_read, lacks_type, takes_type, is_event, first_time, mixes_time, differ}
use Rattle.line_rules.specs.Views.{rule_view}
use Rattle.line_rules.specs.declared.rule.Rule.{Rule}
use Rattle.line_rules.specs.Building.{IsRuleOf, IsLineRefused, Builds, not_built}
use Rattle.line_rules.specs.declared.line_rules.RuleError.{RuleError}
use Rattle.line_rules.specs.declared.line_rules.RuleError.TheVariants as refused
use Rattle.line_rules.specs.declared.patterns.BuildFault.{BuildFault}
use Rattle.line_rules.specs.declared.patterns.BuildFault.TheVariants as fault

same-lacks : (r s : spec.Rule) → Alike r s → lacks_type r ≡ lacks_type s
same-lacks r s alike = ap₂ (λ form names. takes_type form && is_none (group_named names (codes "TYPE"))) alike.form alike.names

same-mixes : (rules : List spec.Rule) (r s : spec.Rule) → Alike r s → mixes_time rules r ≡ mixes_time rules s
same-mixes rules r s alike = ap₂ (λ form names. is_event form && option_map_or (λ timed. differ timed (is_some (group_named names (codes "TIME")))) (first_time rules) false) alike.form alike.names

-- the rule that the grammar reads is tested as one that is alike
module _ (rules : List spec.Rule) (number : ℕ) (r plain : spec.Rule) (alike : Alike r plain) where
  by-tests : Bool → Bool → spec.Rule → Result spec.Rule RuleError
  by-tests lacks mixes rule = cond lacks (Err (refused.NoType number)) (cond mixes (Err (refused.MixedTime number)) (Ok rule))

  same-tests : rule_read rules number (Some plain) ≡ by-tests (lacks_type r) (mixes_time rules r) plain
  unfolding by-tests
  same-tests = ap₂ (λ a b. by-tests a b plain) (sym (same-lacks r plain alike)) (sym (same-mixes rules r plain alike))

  read-ok : rule_read rules number (Some r) ≡ Ok r → rule_read rules number (Some plain) ≡ Ok plain
  unfolding by-tests
  read-ok is = same-tests ∙ of (lacks_type r) (mixes_time rules r) is
    where
      of : (a b : Bool) → by-tests a b r ≡ Ok r → by-tests a b plain ≡ Ok plain
      of true b h = cc
      of false true h = cc
      of false false h = refl

  read-err : (e : RuleError) → rule_read rules number (Some r) ≡ Err e → rule_read rules number (Some plain) ≡ Err e
  unfolding by-tests
  read-err e is = same-tests ∙ of (lacks_type r) (mixes_time rules r) is
    where
      of : (a b : Bool) → by-tests a b r ≡ Err e → by-tests a b plain ≡ Err e
      of true b h = h
      of false true h = h
      of false false h = cc

-- a line that is spelled, where there is room for its rule
spelled-few : (rules : List spec.Rule) (number : ℕ) (line : List ℕ) (form : spec.RuleForm) (pattern : List ℕ) → Some (form, pattern) ≡ spelled_by line → length rules < MAX_RULES
    → rule_at rules (number, line) ≡ rule_read rules number (rule_of form pattern)
spelled-few rules number line form pattern spelled few =
    let below : nat_le MAX_RULES (length rules) ≡ false = lt-leb MAX_RULES (length rules) few in
    ap (rule_spelled rules number) (sym spelled) ∙ rw below refl

-- the errors of a line's text and groups
abbrev IsPlain : ℕ → RuleError → Type 0
IsPlain number (refused.Syntax at) = at ≡ number
IsPlain number (refused.TooLarge at) = ⊥
IsPlain number refused.TooLong = ⊥
IsPlain number refused.NoEvent = ⊥
IsPlain number refused.Memory = ⊥
IsPlain number plain = Unit {0}

plain-read : (rules : List spec.Rule) (number : ℕ) (o : Option spec.Rule) → IfErr (rule_read rules number o) (IsPlain number)
plain-read rules number None = refl
plain-read rules number (Some rule) = tests (lacks_type rule) (mixes_time rules rule)
  where
    tests : (lacks mixes : Bool) → IfErr (cond lacks (Err (refused.NoType number)) (cond mixes (Err (refused.MixedTime number)) (Ok rule))) (IsPlain number)
    tests true mixes = tt
    tests false true = tt
    tests false false = tt

plain-spelled : (rules : List spec.Rule) (number : ℕ) (s : Option (spec.RuleForm × List ℕ)) → IfErr (rule_spelled rules number s) (IsPlain number)
plain-spelled rules number None = tt
plain-spelled rules number (Some s) = many (nat_le MAX_RULES (length rules))
  where
    many : (b : Bool) → IfErr (cond b (Err (refused.TooMany number)) (rule_read rules number (rule_of s.0 s.1))) (IsPlain number)
    many true = tt
    many false = plain-read rules number (rule_of s.0 s.1)

-- a line that is refused whatever is built
pub line-refused : (old new : PatternsState) (rules : List spec.Rule) (number : ℕ) (line : List ℕ) (e : RuleError) → rule_at rules (number, line) ≡ Err e → IsLineRefused old new rules number line e
line-refused old new rules number line e at =
    by-error e at (subst (λ (r : Result spec.Rule RuleError). IfErr r (IsPlain number)) at (plain-spelled rules number (spelled_by line)))
  where
    by-error : (e : RuleError) → rule_at rules (number, line) ≡ Err e → IsPlain number e → IsLineRefused old new rules number line e
    by-error refused.Memory at is = tt
    by-error (refused.Syntax n) at is = (is, inl (subst (λ (k : ℕ). rule_at rules (number, line) ≡ Err (refused.Syntax k)) is at))
    by-error (refused.TooLarge n) at is = absurd is
    by-error refused.TooLong at is = absurd is
    by-error refused.NoEvent at is = absurd is
    by-error e at is = at

-- a line whose pattern is not built
pub line-unbuilt : (old new : PatternsState) (rules : List spec.Rule) (number : ℕ) (line : List ℕ) (form : spec.RuleForm) (pattern : List ℕ) (built : BuildFault) → Some (form, pattern) ≡ spelled_by line
    → length rules < MAX_RULES → (built ≡ fault.Syntax → IsNoPattern pattern ⊎ NestsTooDeep pattern)
    → (built ≡ fault.TooLarge → Rose old.refusals new.refusals × IsTrue (old.may_refuse pattern)) → IsLineRefused old new rules number line (not_built number built)
line-unbuilt old new rules number line form pattern fault.Syntax spelled few syntax large = (refl, ⊎_elim unread deep (syntax refl))
  where
    unread : IsNoPattern pattern → (rule_at rules (number, line) ≡ Err (refused.Syntax number)) ⊎ Builds rules line NestsTooDeep
    unread none = inl (spelled-few rules number line form pattern spelled few ∙ rw none refl)

    deep : NestsTooDeep pattern → (rule_at rules (number, line) ≡ Err (refused.Syntax number)) ⊎ Builds rules line NestsTooDeep
    deep nests = inr (record { few = few; form = form; pattern = pattern; spelled = sym spelled; holds = nests })
line-unbuilt old new rules number line form pattern fault.TooLarge spelled few syntax large =
    (refl, (large refl).0, record { few = few; form = form; pattern = pattern; spelled = sym spelled; holds = (large refl).1 })
line-unbuilt old new rules number line form pattern fault.Memory spelled few syntax large = tt

-- what is built is the rule of the line, or is refused as the rule of the line is
module _ (rules : List spec.Rule) (number : ℕ) (line : List ℕ) (form : spec.RuleForm) (pattern : List ℕ) (rule : Rule) (spelled : Some (form, pattern) ≡ spelled_by line) (few : length rules < MAX_RULES)
    (built : IsSomeAnd (rule_of form pattern) (Alike (rule_view rule))) where
  line-rule : rule_read rules number (Some (rule_view rule)) ≡ Ok (rule_view rule) → IsRuleOf rules number line (rule_view rule)
  line-rule is = by-rule (rule_of form pattern) refl built
    where
      by-rule : (o : Option spec.Rule) → rule_of form pattern ≡ o → IsSomeAnd o (Alike (rule_view rule)) → IsRuleOf rules number line (rule_view rule)
      by-rule None at h = absurd h
      by-rule (Some plain) at alike = record {
        plain = plain;
        read = spelled-few rules number line form pattern spelled few ∙ (ap (rule_read rules number) at ∙ read-ok rules number (rule_view rule) plain alike is);
        alike = alike;
      }

  line-tested : (e : RuleError) → rule_read rules number (Some (rule_view rule)) ≡ Err e → rule_at rules (number, line) ≡ Err e
  line-tested e is = spelled-few rules number line form pattern spelled few ∙ by-rule (rule_of form pattern) built
    where
      by-rule : (o : Option spec.Rule) → IsSomeAnd o (Alike (rule_view rule)) → rule_read rules number o ≡ Err e
      by-rule None h = absurd h
      by-rule (Some plain) alike = read-err rules number (rule_view rule) plain alike e is

  -- by the answer of its tests
  pub tested-rule : (tested : Result (Unit {0}) RuleError) → OnOk tested (rule_read rules number (Some (rule_view rule)) ≡ Ok (rule_view rule)) → IfOk (result_and tested (Ok rule)) (λ (q : Rule). IsRuleOf rules number line (rule_view q))
  tested-rule (Ok x) is = line-rule is
  tested-rule (Err e) is = tt

  pub tested-refused : (old new : PatternsState) (tested : Result (Unit {0}) RuleError) → IfErr tested (λ e. rule_read rules number (Some (rule_view rule)) ≡ Err e)
      → IfErr (result_and tested (Ok rule)) (IsLineRefused old new rules number line)
  tested-refused old new (Ok x) is = tt
  tested-refused old new (Err e) is = line-refused old new rules number line e (line-tested e is)
