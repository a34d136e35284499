-- From the spans of a match to the decision, and from rule to rule.
use Rattle.std.proofs.Common.{◌≡◌, ◌≤◌, subst, take, ℕ, zero, suc, ◌+◌, ◌<◌, Bool, true, false, List, [], ◌∷◌, ◌++◌, length, drop, drop-cons, get_or, Option, Some, None, option_and_then, option_map, unwrap_or, codes, refl, ap, ap₂, sym, ◌∙◌, arith, add-one, cond, nat_lt, slice_get, IsSome, map, rules}
use Rattle.std.proofs.lemmas.Bool.{ltb-true}
use Rattle.std.proofs.lemmas.Option.{slice_get-map, slice_get_read, slice_get_within}
use Rattle.std.specs.Prelude.{IsCharBoundary}
use Rattle.std.specs.Prelude.{IfSome, IfOk, Result, Ok}
use Rattle.line_rules.specs.declared.decision.Named.{Named}
use Rattle.line_rules.specs.declared.decision.Named.TheVariants as named
use Rattle.std.proofs.lemmas.List.{length-map, map-append, take_more, drop_all, take_all}
use Rattle.std.proofs.Math.ListN.{set}
use Rattle.regex.specs.Patterns.{Re, Match, find_str}
use Rattle.regex.specs.Strings.{regex_pattern, regex_names}
use Rattle.line_rules.specs.Rules as spec
use Rattle.line_rules.specs.Rules.{span_of, time_by, decided_at, decided_by, group_named, decision_from, fixed_name, name_of, event, IsSpanOf, IsNamePart, HasParts}
use Rattle.line_rules.specs.Views.{rule_view, form_view, spans_of, matcher_rules}
use Rattle.line_rules.specs.declared.decision.Decision.{Decision}
use Rattle.line_rules.specs.declared.decision.Decision.TheVariants as decision
use Rattle.line_rules.specs.declared.rule.Rule.{Rule}
use Rattle.line_rules.specs.declared.spans.Spans.{Spans}
use Rattle.line_rules.specs.declared.decision.DecideError.{DecideError}
use Rattle.line_rules.specs.declared.matchers.RuleMatcher.{RuleMatcher}

of-spans : (r : Rule) (number : ℕ) (form : spec.RuleForm) (line : List ℕ) (o : Option Match)
    → option_and_then (λ m. decided_at number form (option_and_then (span_of m) r.type_group) (option_and_then (span_of m) r.trace_group) (time_by r.time_group line (option_and_then (span_of m) r.time_group))) o
    ≡ option_and_then (λ (s : Spans). decided_at number form s.typ s.trace (time_by r.time_group line s.time)) (option_map (spans_of r) o)
of-spans r number form line None = refl
of-spans r number form line (Some m) = refl

-- what the spans of a search decide is what the rule decides
pub decided-when : (number : ℕ) (r : Rule) (re : Re) (line : List ℕ) (spans : Option Spans) → re ≡ regex_pattern r.regex → spans ≡ option_map (spans_of r) (find_str re line 0)
    → decided_by number (rule_view r) line ≡ option_and_then (λ (s : Spans). decided_at number (form_view r.form) s.typ s.trace (time_by r.time_group line s.time)) spans
decided-when number r re line spans same found =
    let form : spec.RuleForm = form_view r.form in
    let D : Option ℕ → Option ℕ → Option ℕ → Re → Option (Result Decision DecideError) = λ a b t p.
    option_and_then (λ m. decided_at number form (option_and_then (span_of m) a) (option_and_then (span_of m) b) (time_by t line (option_and_then (span_of m) t))) (find_str p line 0) in
    let names : List (Option (List ℕ)) = regex_names r.regex in
    ap (λ p. D (group_named names (codes "TYPE")) (group_named names (codes "TRACE")) (group_named names (codes "TIME")) p) (sym same)
    ∙ (ap₂ (λ a b. D a b (group_named names (codes "TIME")) re) (sym r.type_is) (sym r.trace_is)
    ∙ (ap (λ t. D r.type_group r.trace_group t re) (sym r.time_is)
    ∙ (of-spans r number form line (find_str re line 0) ∙ ap (λ s. option_and_then (λ (s : Spans). decided_at number form s.typ s.trace (time_by r.time_group line s.time)) s) (sym found))))

-- a matcher that keeps its rule keeps the list
pub rules-kept : (ms : List RuleMatcher) (i : ℕ) (d new : RuleMatcher) → i < length ms → new.rule ≡ (get_or ms i d).rule → matcher_rules (set ms i new) ≡ matcher_rules ms
rules-kept [] i d new inside same = refl
rules-kept (m ∷ ms) zero d new inside same = ap (λ (r : _). rule_view r.now ∷ matcher_rules ms) same
rules-kept (m ∷ ms) (suc i) d new inside same = ap (λ rs. rule_view m.rule.now ∷ rs) (rules-kept ms i d new (omega arith) same)

-- the rule at a place
pub rule-at : (ms : List RuleMatcher) (i : ℕ) (d : RuleMatcher) → get_or (matcher_rules ms) i (rule_view d.rule.now) ≡ rule_view (get_or ms i d).rule.now
rule-at [] i d = refl
rule-at (m ∷ ms) zero d = refl
rule-at (m ∷ ms) (suc i) d = rule-at ms i d

next-rule : (rs : List spec.Rule) (i : ℕ) (d : spec.Rule) (line : List ℕ) → i < length rs
    → decision_from i (drop i rs) line ≡ unwrap_or (decided_by i (get_or rs i d) line) (decision_from (i + 1) (drop (i + 1) rs) line)
next-rule rs i d line inside =
    let parts : drop i rs ≡ get_or rs i d ∷ drop (i + 1) rs = rw (add-one, drop-cons rs i d inside) refl in
    ap (λ ts. decision_from i ts line) parts

-- the next rule is tried
pub next-matcher : (ms : List RuleMatcher) (i : ℕ) (m : RuleMatcher) (line : List ℕ) → i < length ms → m ≡ get_or ms i m
    → decision_from i (drop i (matcher_rules ms)) line ≡ unwrap_or (decided_by i (rule_view m.rule.now) line) (decision_from (i + 1) (drop (i + 1) (matcher_rules ms)) line)
next-matcher ms i m line inside is =
    next-rule (matcher_rules ms) i (rule_view m.rule.now) line (omega (arith, length-map ms (λ (n : RuleMatcher). rule_view n.rule.now)))
    ∙ ap (λ r. unwrap_or (decided_by i r line) (decision_from (i + 1) (drop (i + 1) (matcher_rules ms)) line))
    (rule-at ms i m ∙ ap (λ (n : RuleMatcher). rule_view n.rule.now) (sym is))

empty-span : (line : List ℕ) → IsCharBoundary line 0 → IsSpanOf line (0, 0)
empty-span line start = record { ordered = omega arith; inside = omega arith; starts_cleanly = start; ends_cleanly = start }

event-parts : (rules : List spec.Rule) (line : List ℕ) → IsCharBoundary line 0 → (trace : Option (ℕ × ℕ)) (name : Named) (time : Option ℕ) → IsNamePart rules line name → IfSome trace (IsSpanOf line)
    → IfOk (event trace name time) (HasParts rules line)
event-parts rules line start trace name None part within = tt
event-parts rules line start None name (Some time) part within = (part, empty-span line start)
event-parts rules line start (Some s) name (Some time) part within = (part, within)

typed-parts : (rules : List spec.Rule) (line : List ℕ) → IsCharBoundary line 0 → (trace : Option (ℕ × ℕ)) (time : Option ℕ) (s : ℕ × ℕ) (b : Bool) → nat_lt s.0 s.1 ≡ b → IsSpanOf line s
    → IfSome trace (IsSpanOf line) → IfSome (option_map (λ (t : ℕ × ℕ). event trace (named.Part t.0 t.1) time) (cond b (Some s) None)) (λ answer. IfOk answer (HasParts rules line))
typed-parts rules line start trace time s true less at within = event-parts rules line start trace (named.Part s.0 s.1) time (at, ltb-true s.0 s.1 less) within
typed-parts rules line start trace time s false less at within = tt

name-stands : (rules : List spec.Rule) (number : ℕ) (r : spec.Rule) (name : List ℕ) → slice_get rules number ≡ Some r → r.form ≡ spec.EventOf name → IsSome (fixed_name rules number)
name-stands rules number r name at form =
    let named : fixed_name rules number ≡ Some name = ap (λ o. option_and_then (λ (q : spec.Rule). name_of q.form) o) at ∙ ap name_of form in
    rw named refl

-- what a rule decides has parts of the line
pub decided-parts : (rules : List spec.Rule) (line : List ℕ) → IsCharBoundary line 0 → (number : ℕ) (r : spec.Rule) (form : spec.RuleForm) → slice_get rules number ≡ Some r → r.form ≡ form
    → (typ trace : Option (ℕ × ℕ)) (time : Option ℕ) → IfSome typ (IsSpanOf line) → IfSome trace (IsSpanOf line)
    → IfSome (decided_at number form typ trace time) (λ answer. IfOk answer (HasParts rules line))
decided-parts rules line start number r spec.Skip at is typ trace time t u = tt
decided-parts rules line start number r spec.Separator at is typ trace time t u = tt
decided-parts rules line start number r spec.Event at is None trace time t u = tt
decided-parts rules line start number r spec.Event at is (Some s) trace time t u = typed-parts rules line start trace time s (nat_lt s.0 s.1) refl t u
decided-parts rules line start number r (spec.EventOf name) at is typ trace time t u = event-parts rules line start trace (named.Fixed number) time (name-stands rules number r name at is) u

-- the rule at a place
pub at-place : (ms : List RuleMatcher) (i : ℕ) (m : RuleMatcher) → i < length ms → m ≡ get_or ms i m → slice_get (matcher_rules ms) i ≡ Some (rule_view m.rule.now)
at-place ms i m inside is = slice_get-map (λ (n : RuleMatcher). rule_view n.rule.now) ms i ∙ ap (option_map (λ (n : RuleMatcher). rule_view n.rule.now)) (slice_get_read ms (length ms) i m refl inside is)

-- the name that the rule at a place gives its events
pub name-at : (rs : List Rule) (i : ℕ) (r : Rule) → slice_get rs i ≡ Some r → fixed_name (map rule_view rs) i ≡ name_of (form_view r.form)
name-at rs i r at = ap (λ o. option_and_then (λ (q : spec.Rule). name_of q.form) o) (slice_get-map rule_view rs i ∙ ap (option_map rule_view) at)

-- a rule that has a name stands within the list
pub name-within : (rs : List Rule) (i : ℕ) → IsSome (fixed_name (map rule_view rs) i) → i < length rs
name-within rs i some =
    let f : Option spec.Rule → Option (List ℕ) = λ o. option_and_then (λ (q : spec.Rule). name_of q.form) o in
    within (slice_get rs i) refl (subst (λ (o : Option spec.Rule). IsSome (f o)) (slice_get-map rule_view rs i) some)
  where
    within : (o : Option Rule) → slice_get rs i ≡ o → IsSome (option_and_then (λ (q : spec.Rule). name_of q.form) (option_map rule_view o)) → i < length rs
    within None none some = absurd (search (rules, some))
    within (Some r) at some = slice_get_within rs i r at

-- the rule at that place has a name
pub name-stands-at : (rs : List Rule) (i : ℕ) (r : Rule) → IsSome (fixed_name (map rule_view rs) i) → r ≡ get_or rs i r → None ≡ name_of (form_view r.form) → ⊥
name-stands-at rs i r some is none =
    let at : fixed_name (map rule_view rs) i ≡ name_of (form_view r.form) = name-at rs i r (slice_get_read rs (length rs) i r refl (name-within rs i some) is) in
    let none' : fixed_name (map rule_view rs) i ≡ None = at ∙ sym none in
    let h : IsSome {T = List ℕ} None = rw none' at some in
    search (rules, h)

-- and it is the name of the rules at that place
pub name-is : (rs : List Rule) (i : ℕ) (r : Rule) (name : List ℕ) → IsSome (fixed_name (map rule_view rs) i) → r ≡ get_or rs i r → Some name ≡ name_of (form_view r.form) → fixed_name (map rule_view rs) i ≡ Some name
name-is rs i r name some is named = name-at rs i r (slice_get_read rs (length rs) i r refl (name-within rs i some) is) ∙ sym named

-- past the last rule nothing is decided
pub past-last : (rs : List spec.Rule) (i : ℕ) (line : List ℕ) → length rs ≤ i → decision_from i (drop i rs) line ≡ Ok decision.Undecided
past-last rs i line past = ap (λ ts. decision_from i ts line) (drop_all i rs past)

-- all rules were taken
pub whole-view : (xs ys : List Rule) (i : ℕ) → ys ≡ xs → length ys ≤ i → map rule_view (take i ys) ≡ map rule_view xs
whole-view xs ys i same past = ap (map rule_view) (take_all i ys past ∙ same)

-- one more rule was taken
pub one-more : (ms new : List RuleMatcher) (xs : List Rule) (i : ℕ) (m : RuleMatcher) (r : Rule) → matcher_rules ms ≡ map rule_view (take i xs) → i < length xs → r ≡ get_or xs i r → m.rule.now ≡ r
    → new ≡ ms ++ m ∷ [] → matcher_rules new ≡ map rule_view (take (i + 1) xs)
one-more ms new xs i m r made inside is same pushed =
    let view : RuleMatcher → spec.Rule = λ n. rule_view n.rule.now in
    let one : rule_view m.rule.now ≡ rule_view (get_or xs i r) = ap rule_view (same ∙ is) in
    ap (map view) pushed ∙ (map-append view ms (m ∷ []) ∙ (ap₂ (λ (a : List spec.Rule) (b : spec.Rule). a ++ b ∷ []) made one
    ∙ (sym (map-append rule_view (take i xs) (get_or xs i r ∷ [])) ∙ ap (map rule_view) (sym (take_more xs i r inside)))))
