-- What decides a line by rules wants no memory.
use Rattle.std.proofs.Common.{◌≡◌, sym, ap, ◌∙◌, subst, ℕ, ◌+◌, List, [], ◌∷◌, Option, Some, None, option_map, option_and_then, unwrap_or}
use Rattle.std.specs.Prelude.{IfSome, Result, Ok, Err}
use Rattle.line_rules.specs.Rules.{Rule, RuleForm, Skip, Separator, Event, EventOf, event, not_empty, decided_at, decided_by, decision_from}
use Rattle.line_rules.specs.declared.decision.Decision.{Decision}
use Rattle.line_rules.specs.declared.decision.DecideError.{DecideError}
use Rattle.line_rules.specs.declared.decision.DecideError.TheVariants as undecided
use Rattle.line_rules.specs.declared.decision.Named.{Named}
use Rattle.line_rules.specs.declared.decision.Named.TheVariants as named

-- the answer is not want of memory
abbrev IsTold : Result Decision DecideError → Type 0
IsTold (Ok decision) = Unit {0}
IsTold (Err undecided.BadTime) = Unit {0}
IsTold (Err undecided.Memory) = ⊥

told-event : (trace : Option (ℕ × ℕ)) (name : Named) (time : Option ℕ) → IsTold (event trace name time)
told-event trace name None = tt
told-event None name (Some time) = tt
told-event (Some s) name (Some time) = tt

told-part : (span trace : Option (ℕ × ℕ)) (time : Option ℕ) → IfSome (option_map (λ (s : ℕ × ℕ). event trace (named.Part s.0 s.1) time) span) IsTold
told-part None trace time = tt
told-part (Some s) trace time = told-event trace (named.Part s.0 s.1) time

told-at : (number : ℕ) (form : RuleForm) (typ trace : Option (ℕ × ℕ)) (time : Option ℕ) → IfSome (decided_at number form typ trace time) IsTold
told-at number Skip typ trace time = tt
told-at number Separator typ trace time = tt
told-at number Event typ trace time = told-part (not_empty typ) trace time
told-at number (EventOf name) typ trace time = told-event trace (named.Fixed number) time

told-match : {M : Type 0} (decide : M → Option (Result Decision DecideError)) (found : Option M) → ((m : M) → IfSome (decide m) IsTold) → IfSome (option_and_then decide found) IsTold
told-match decide None each = tt
told-match decide (Some m) each = each m

told-first : (first : Option (Result Decision DecideError)) (next : Result Decision DecideError) → IfSome first IsTold → IsTold next → IsTold (unwrap_or first next)
told-first None next here later = later
told-first (Some answer) next here later = here

told-by : (number : ℕ) (rule : Rule) (line : List ℕ) → IfSome (decided_by number rule line) IsTold
told-by number rule line = told-match _ _ (λ m. told-at number rule.form _ _ _)

told : (number : ℕ) (rules : List Rule) (line : List ℕ) → IsTold (decision_from number rules line)
told number [] line = tt
told number (rule ∷ rules) line = told-first (decided_by number rule line) _ (told-by number rule line) (told (number + 1) rules line)

pub wants-none : (number : ℕ) (rules : List Rule) (line : List ℕ) (e : DecideError) → Err e ≡ decision_from number rules line → e ≡ undecided.Memory → ⊥
wants-none number rules line e is memory = subst IsTold (sym is ∙ ap (λ (d : DecideError). Err d) memory) (told number rules line)
