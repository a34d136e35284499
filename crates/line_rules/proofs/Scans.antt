-- Rules that are looked through one after the other.
use Rattle.std.proofs.Common.{◌≡◌, ◌<◌, ◌+◌, ℕ, true, false, List, ◌∷◌, ◌||◌, length, get_or, map, drop, sym, ap, ◌∙◌, Some, if◌then◌else◌}
use Rattle.std.specs.List.{list_any}
use Rattle.std.proofs.lemmas.List.{drop_more}
use Rattle.line_rules.specs.Files.{is_event, has_time, first_time}
use Rattle.line_rules.specs.Views.{rule_view}
use Rattle.line_rules.specs.declared.rule.Rule.{Rule}

module _ (rules : List Rule) (i : ℕ) (rule : Rule) (inside : i < length rules) (is : rule ≡ get_or rules i rule) where
  here : map rule_view (drop i rules) ≡ rule_view rule ∷ map rule_view (drop (i + 1) rules)
  here = ap (map rule_view) (drop_more rules i rule inside ∙ ap (λ r. r ∷ drop (i + 1) rules) (sym is))

  -- an event rule is one of those that are left
  pub event-here : is_event (rule_view rule).form ≡ true → list_any (λ r. is_event r.form) (map rule_view (drop i rules)) ≡ true
  event-here e = ap (list_any (λ r. is_event r.form)) here ∙ ap (λ b. b || list_any (λ r. is_event r.form) (map rule_view (drop (i + 1) rules))) e

  -- another rule leaves the question to those after it
  pub event-later : is_event (rule_view rule).form ≡ false → list_any (λ r. is_event r.form) (map rule_view (drop i rules)) ≡ list_any (λ r. is_event r.form) (map rule_view (drop (i + 1) rules))
  event-later e = ap (list_any (λ r. is_event r.form)) here ∙ ap (λ b. b || list_any (λ r. is_event r.form) (map rule_view (drop (i + 1) rules))) e

  -- the first event rule says whether there is a group TIME
  pub time-here : is_event (rule_view rule).form ≡ true → first_time (map rule_view (drop i rules)) ≡ Some (has_time (rule_view rule))
  time-here e = ap first_time here ∙ ap (λ b. if b then Some (has_time (rule_view rule)) else first_time (map rule_view (drop (i + 1) rules))) e

  -- another rule does not
  pub time-later : is_event (rule_view rule).form ≡ false → first_time (map rule_view (drop i rules)) ≡ first_time (map rule_view (drop (i + 1) rules))
  time-later e = ap first_time here ∙ ap (λ b. if b then Some (has_time (rule_view rule)) else first_time (map rule_view (drop (i + 1) rules))) e
