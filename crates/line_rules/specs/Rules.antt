-- Rules over the lines of a log, and what they decide.
use Rattle.std.specs.Prelude.{◌≡◌, ℕ, zero, suc, ◌+◌, ◌<◌, ◌≤◌, ◌-◌, Bool, false, List, [], ◌∷◌, length, take, drop, chars, codes, nat_lt, Option, Some, None, IsSome, if◌then◌else◌, option_and_then, option_map, unwrap_or, slice_get, IsCharBoundary, Result, Ok, Err}
use Rattle.std.specs.List.{position}
use Rattle.std.specs.Str.{bytes_eq}
use Rattle.regex.specs.Patterns.{Re, Match, SameCaptures, default_config, find_str, span}
use Rattle.regex.specs.Writes.{group_of}
use Rattle.regex_syntax.specs.Grammar.{read}
use Rattle.line_rules.specs.Times.{time_of}
use Rattle.line_rules.specs.declared.decision.Decision.{Decision}
use Rattle.line_rules.specs.declared.decision.Decision.TheVariants as decision
use Rattle.line_rules.specs.declared.decision.DecideError.{DecideError}
use Rattle.line_rules.specs.declared.decision.DecideError.TheVariants as undecided
use Rattle.line_rules.specs.declared.decision.Named.{Named}
use Rattle.line_rules.specs.declared.decision.Named.TheVariants as named

-- the form of a rule; the last gives its events a type of its own
pub data RuleForm : Type 0 where
  Skip : RuleForm
  Separator : RuleForm
  Event : RuleForm
  EventOf : (name : List ℕ) → RuleForm

-- a rule: its form, its pattern, and the names of the pattern's groups
pub record Rule : Type 0 where
  pub form : RuleForm
  pub re : Re
  pub names : List (Option (List ℕ))

-- the group has the name
abbrev pub has_name : List ℕ → Option (List ℕ) → Bool
has_name name None = false
has_name name (Some other) = bytes_eq name other

-- the number of the first group with the name
abbrev pub group_named : List (Option (List ℕ)) → List ℕ → Option ℕ
group_named names name = position (has_name name) names

-- the span of a group in a match, if it took part; group 0 is the whole match
abbrev pub span_of : Match → ℕ → Option (ℕ × ℕ)
span_of m zero = Some (span m)
span_of m (suc n) = group_of m (suc n)

-- the span of the first group with the name in a match
abbrev pub span_of_name : Rule → List ℕ → Match → Option (ℕ × ℕ)
span_of_name rule name m = option_and_then (span_of m) (group_named rule.names name)

-- a span, unless it is empty
abbrev pub not_empty : Option (ℕ × ℕ) → Option (ℕ × ℕ)
not_empty None = None
not_empty (Some s) = if nat_lt s.0 s.1 then Some s else None

-- the part of a line from one place to another
abbrev pub part : List ℕ → ℕ → ℕ → List ℕ
part line from to = take (to - from) (drop from line)

-- the time in the span of a group, if it took part
abbrev pub time_at : List ℕ → Option (ℕ × ℕ) → Option ℕ
time_at line None = None
time_at line (Some s) = time_of (part line s.0 s.1)

-- the time of an event whose rule has this group TIME with this span: 0 without a group,
-- and None if the group took no part or contains no time
abbrev pub time_by : (group : Option ℕ) → List ℕ → Option (ℕ × ℕ) → Option ℕ
time_by None line s = Some 0
time_by (Some group) line s = time_at line s

-- the time of an event that a match of the rule gives
abbrev pub time_in : Rule → List ℕ → Match → Option ℕ
time_in rule line m =
    time_by (group_named rule.names (codes "TIME")) line (span_of_name rule (codes "TIME") m)

-- an event, whose trace text is empty if its group is absent or took no part; a bad time if there is no time
abbrev pub event : Option (ℕ × ℕ) → Named → Option ℕ → Result Decision DecideError
event trace name None = Err undecided.BadTime
event None name (Some time) = Ok (decision.Event name 0 0 time)
event (Some s) name (Some time) = Ok (decision.Event name s.0 s.1 time)

-- what a rule with this number decides if the groups TYPE and TRACE of its match have these spans, and the event has this time
abbrev pub decided_at : ℕ → RuleForm → (typ trace : Option (ℕ × ℕ)) → Option ℕ
    → Option (Result Decision DecideError)
decided_at number Skip typ trace time = Some (Ok decision.Skip)
decided_at number Separator typ trace time = Some (Ok decision.Separator)
decided_at number Event typ trace time =
    option_map (λ s. event trace (named.Part s.0 s.1) time) (not_empty typ)
decided_at number (EventOf name) typ trace time = Some (event trace (named.Fixed number) time)

-- what a rule with this number decides of a line, if it does
abbrev pub decided_by : ℕ → Rule → List ℕ → Option (Result Decision DecideError)
decided_by number rule line =
    option_and_then
    (λ m. decided_at number rule.form (span_of_name rule (codes "TYPE") m)
    (span_of_name rule (codes "TRACE") m) (time_in rule line m))
    (find_str rule.re line 0)

-- The decision of the first rule that decides the line; the rules are numbered from `number`.
-- A bad time is a decision too: no later rule is tried.
abbrev pub decision_from : ℕ → List Rule → List ℕ → Result Decision DecideError
decision_from number [] line = Ok decision.Undecided
decision_from number (rule ∷ rules) line =
    unwrap_or (decided_by number rule line) (decision_from (number + 1) rules line)

-- the decision of a line, or its bad time
abbrev pub decision_of : List Rule → List ℕ → Result Decision DecideError
decision_of = decision_from 0

-- the name of a rule's own type, if it has one
abbrev pub name_of : RuleForm → Option (List ℕ)
name_of Skip = None
name_of Separator = None
name_of Event = None
name_of (EventOf name) = Some name

-- the name that the rule with this number gives its events, if it gives one
abbrev pub fixed_name : List Rule → ℕ → Option (List ℕ)
fixed_name rules number = option_and_then (λ rule. name_of rule.form) (slice_get rules number)

-- the type text of an event
abbrev pub type_text : List Rule → List ℕ → Named → List ℕ
type_text rules line (named.Fixed number) = unwrap_or (fixed_name rules number) []
type_text rules line (named.Part from to) = part line from to

-- the two places are in the line, in order, between characters
pub record IsSpanOf (line : List ℕ) (s : ℕ × ℕ) : Type 0 where
  pub ordered : s.0 ≤ s.1
  pub inside : s.1 ≤ length line
  pub starts_cleanly : IsCharBoundary line s.0
  pub ends_cleanly : IsCharBoundary line s.1

-- the name is that of a rule, or a part of the line that is not empty
abbrev pub IsNamePart : List Rule → List ℕ → Named → Type 0
IsNamePart rules line (named.Fixed number) = IsSome (fixed_name rules number)
IsNamePart rules line (named.Part from to) = IsSpanOf line (from, to) × (from < to)

-- the parts that the decision names are parts of the line, and a rule that it names has a name
abbrev pub HasParts : List Rule → List ℕ → Decision → Type 0
HasParts rules line (decision.Event name from to time) =
    IsNamePart rules line name × IsSpanOf line (from, to)
HasParts rules line decision.Skip = Unit {0}
HasParts rules line decision.Separator = Unit {0}
HasParts rules line decision.Undecided = Unit {0}

-- the rule that the grammar reads from the text of a pattern, if it reads one
abbrev pub rule_of : RuleForm → List ℕ → Option Rule
rule_of form text =
    option_map (λ (tree, names). record { form = form; re = tree.value; names = names })
    (read default_config (chars text))

-- the rules have the same form and the same names, and a search with either gives the same
pub record Alike (r s : Rule) : Type 0 where
  pub form : r.form ≡ s.form
  pub names : r.names ≡ s.names
  pub captures : SameCaptures r.re s.re

-- the rules are alike, one by one
abbrev pub AreAlike : List Rule → List Rule → Type 0
AreAlike [] [] = Unit {0}
AreAlike [] (s ∷ ss) = ⊥
AreAlike (r ∷ rs) [] = ⊥
AreAlike (r ∷ rs) (s ∷ ss) = Alike r s × AreAlike rs ss
