-- Rules whose patterns give the same captures decide the same.
use Rattle.std.proofs.Common.{◌≡◌, ℕ, zero, suc, ◌<◌, ◌*◌, ◌+◌, true, List, [], ◌∷◌, get_or, unwrap_or, Option, Some, None, option_and_then, option_map, codes, is_some, refl, ap, ap₂, sym, ◌∙◌, rules}
use Rattle.regex.proofs.ForCallers.{is_match_alike, span_alike, found_alike}
use Rattle.regex.specs.Patterns.{Match, find_str, slot_of, span}
use Rattle.std.specs.Prelude.{Result}
use Rattle.regex.specs.Writes.{both}
use Rattle.line_rules.specs.Rules as spec
use Rattle.line_rules.specs.Rules.{fixed_name, name_of, span_of, time_by, decided_at, decided_by, decision_from, Alike, AreAlike, group_named}
use Rattle.line_rules.specs.declared.decision.Decision.{Decision}
use Rattle.line_rules.specs.declared.decision.DecideError.{DecideError}

same-span : (m n : Match) → slot_of n ≡ slot_of m → span m ≡ span n → (k : ℕ) → span_of m k ≡ span_of n k
same-span m n slots whole zero = ap (λ (s : ℕ × ℕ). Some s) whole
same-span m n slots whole (suc k) = ap (λ (f : ℕ → Option ℕ). both (f (2 * suc k)) (f (2 * suc k + 1))) (sym slots)

same-group : (m n : Match) → slot_of n ≡ slot_of m → span m ≡ span n → (group : Option ℕ) → option_and_then (span_of m) group ≡ option_and_then (span_of n) group
same-group m n slots whole None = refl
same-group m n slots whole (Some k) = same-span m n slots whole k

-- what the spans of the groups TYPE, TRACE and TIME in a match give
abbrev by-match : ℕ → spec.RuleForm → (a b t : Option ℕ) → List ℕ → Match → Option (Result Decision DecideError)
by-match number form a b t line m = decided_at number form (option_and_then (span_of m) a) (option_and_then (span_of m) b) (time_by t line (option_and_then (span_of m) t))

same-decision : (number : ℕ) (form : spec.RuleForm) (a b t : Option ℕ) (line : List ℕ) (o p : Option Match) → is_some o ≡ is_some p → option_map span o ≡ option_map span p
    → ((m : Match) → o ≡ Some m → (n : Match) × (p ≡ Some n) × (slot_of n ≡ slot_of m))
    → option_and_then (by-match number form a b t line) o ≡ option_and_then (by-match number form a b t line) p
same-decision number form a b t line None None found spans slots = refl
same-decision number form a b t line None (Some n) found spans slots = absurd (search rules)
same-decision number form a b t line (Some m) None found spans slots = absurd (search rules)
same-decision number form a b t line (Some m) (Some n) found spans slots =
    let other = slots m refl in
    let is : Some n ≡ Some other.0 = other.1 in
    let one : n ≡ other.0 = search rules in
    let slot : slot_of n ≡ slot_of m = ap slot_of one ∙ other.2 in
    let whole : span m ≡ span n = search rules in
    ap₂ (λ x y. decided_at number form x y (time_by t line (option_and_then (span_of m) t))) (same-group m n slot whole a) (same-group m n slot whole b)
    ∙ ap (λ x. decided_at number form (option_and_then (span_of n) a) (option_and_then (span_of n) b) (time_by t line x)) (same-group m n slot whole t)

-- so one rule decides as the other
pub alike-decide : (number : ℕ) (r s : spec.Rule) (line : List ℕ) → ((k : ℕ) → get_or line k 0 < 256) → Alike r s → decided_by number r line ≡ decided_by number s line
alike-decide number r s line bytes alike =
    let D : spec.RuleForm → List (Option (List ℕ)) → Option Match → Option (Result Decision DecideError) = λ form names o.
    option_and_then (by-match number form (group_named names (codes "TYPE")) (group_named names (codes "TRACE")) (group_named names (codes "TIME")) line) o in
    ap₂ (λ form names. D form names (find_str r.re line 0)) alike.form alike.names
    ∙ same-decision number s.form (group_named s.names (codes "TYPE")) (group_named s.names (codes "TRACE")) (group_named s.names (codes "TIME")) line (find_str r.re line 0) (find_str s.re line 0)
    (is_match_alike alike.captures line bytes true 0) (span_alike alike.captures line bytes true 0) (found_alike alike.captures line bytes true 0)

-- and so do lists of them
pub alike-decision : (number : ℕ) (rs ss : List spec.Rule) (line : List ℕ) → ((k : ℕ) → get_or line k 0 < 256) → AreAlike rs ss → decision_from number rs line ≡ decision_from number ss line
alike-decision number [] [] line bytes alike = refl
alike-decision number [] (s ∷ ss) line bytes alike = absurd alike
alike-decision number (r ∷ rs) [] line bytes alike = absurd alike
alike-decision number (r ∷ rs) (s ∷ ss) line bytes alike =
    ap₂ unwrap_or (alike-decide number r s line bytes alike.0) (alike-decision (number + 1) rs ss line bytes alike.1)

-- rules that are alike give the same names
pub alike-name : (rs ss : List spec.Rule) (number : ℕ) → AreAlike rs ss → fixed_name rs number ≡ fixed_name ss number
alike-name [] [] number alike = refl
alike-name [] (s ∷ ss) number alike = absurd alike
alike-name (r ∷ rs) [] number alike = absurd alike
alike-name (r ∷ rs) (s ∷ ss) zero alike = ap name_of alike.0.form
alike-name (r ∷ rs) (s ∷ ss) (suc number) alike = alike-name rs ss number alike.1
