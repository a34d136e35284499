-- The expressions file: which lines are rules, and which file is refused.
use Rattle.std.specs.Prelude.{◌≡◌, ◌≤◌, ◌<◌, ◌⊎◌, ℕ, ◌+◌, ◌==◌, ◌&&◌, ◌||◌, Bool, true, false, IsTrue, List, [], ◌∷◌, ◌++◌, length, take, drop, codes, nat_lt, nat_le, slice_index, Option, Some, None, is_none, is_some, Result, Ok, Err, not, if◌then◌else◌, option_map}
use Rattle.std.specs.Option.{option_map_or}
use Rattle.std.specs.List.{list_any, before_first, after_first}
use Rattle.std.specs.Str.{bytes_eq, is_utf8}
use Rattle.limits.specs.declared.TheConstants.{MAX_RULES, MAX_RULES_BYTES, MAX_TYPE_BYTES}
use Rattle.lines.specs.Lines.{pieces, line_of}
use Rattle.line_rules.specs.Patterns.{PatternsState, Rose, NestsTooDeep}
use Rattle.line_rules.specs.Rules.{RuleForm, Skip, Separator, Event, EventOf, Rule, rule_of, group_named, AreAlike}
use Rattle.line_rules.specs.declared.line_rules.RuleError.{RuleError}
use Rattle.line_rules.specs.declared.line_rules.RuleError.TheVariants as refused

-- a space
abbrev pub is_space : ℕ → Bool
is_space b = b == 32

-- `event=NAME`, where NAME has 1 to 256 bytes
abbrev pub named_form : List ℕ → Option RuleForm
named_form word = if bytes_eq (take 6 word) (codes "event=") && nat_lt 6 (length word)
    && nat_le (length word) (6 + MAX_TYPE_BYTES) then Some (EventOf (drop 6 word)) else None

-- the form of a rule that begins with this word
abbrev pub form_of_word : List ℕ → Option RuleForm
form_of_word word =
    if bytes_eq word (codes "skip") then Some Skip
    else if bytes_eq word (codes "separator") then Some Separator
    else if bytes_eq word (codes "event") then Some Event
    else named_form word

-- the form and the pattern of a line that has one of the four forms: a word, one space, and a pattern that is not empty
abbrev pub spelled_by : List ℕ → Option (RuleForm × List ℕ)
spelled_by line =
    if is_utf8 line && nat_lt 0 (length (after_first is_space line))
    then option_map (λ form. (form, after_first is_space line)) (form_of_word (before_first is_space line))
    else None

-- a line without bytes, or one that begins with `#`
abbrev pub is_skipped : List ℕ → Bool
is_skipped line = length line == 0 || slice_index line 0 == 35

-- the lines of the pieces that are not skipped, with their numbers; the first piece has the number `number`
abbrev pub numbered : ℕ → List (List ℕ) → List (ℕ × List ℕ)
numbered number [] = []
numbered number (piece ∷ pieces) =
    if is_skipped (line_of piece) then numbered (number + 1) pieces
    else (number, line_of piece) ∷ numbered (number + 1) pieces

-- the lines of an expressions file that are to be rules, with their numbers
abbrev pub rule_lines : List ℕ → List (ℕ × List ℕ)
rule_lines bytes = numbered 1 (pieces bytes)

-- whether a rule of this form is an event rule
abbrev pub is_event : RuleForm → Bool
is_event Skip = false
is_event Separator = false
is_event Event = true
is_event (EventOf name) = true

-- whether a rule of this form is `event PATTERN`
abbrev pub takes_type : RuleForm → Bool
takes_type Skip = false
takes_type Separator = false
takes_type Event = true
takes_type (EventOf name) = false

-- whether the rule is an `event PATTERN` without a group TYPE
abbrev pub lacks_type : Rule → Bool
lacks_type rule = takes_type rule.form && is_none (group_named rule.names (codes "TYPE"))

-- whether the pattern has a group TIME
abbrev pub has_time : Rule → Bool
has_time rule = is_some (group_named rule.names (codes "TIME"))

-- whether the first event rule has a group TIME, if there is an event rule
abbrev pub first_time : List Rule → Option Bool
first_time [] = None
first_time (rule ∷ rules) = if is_event rule.form then Some (has_time rule) else first_time rules

-- one is true and the other false
abbrev pub differ : Bool → Bool → Bool
differ true b = not b
differ false b = b

-- whether the rule is an event rule that has a group TIME while the first event rule has none, or the other way round
abbrev pub mixes_time : List Rule → Rule → Bool
mixes_time rules rule = is_event rule.form
    && option_map_or (λ timed. differ timed (has_time rule)) (first_time rules) false

-- the rule that the grammar reads for a line, after these rules, or the refusal
abbrev pub rule_read : List Rule → ℕ → Option Rule → Result Rule RuleError
rule_read rules number None = Err (refused.Syntax number)
rule_read rules number (Some rule) =
    if lacks_type rule then Err (refused.NoType number)
    else if mixes_time rules rule then Err (refused.MixedTime number)
    else Ok rule

-- the rule of a line with this form and pattern, after these rules, or its first refusal
abbrev pub rule_spelled : List Rule → ℕ → Option (RuleForm × List ℕ) → Result Rule RuleError
rule_spelled rules number None = Err (refused.BadLine number)
rule_spelled rules number (Some spelled) =
    if nat_le MAX_RULES (length rules) then Err (refused.TooMany number)
    else rule_read rules number (rule_of spelled.0 spelled.1)

-- the rule of a line with its number, after these rules, or its first refusal
abbrev pub rule_at : List Rule → ℕ × List ℕ → Result Rule RuleError
rule_at rules line = rule_spelled rules line.0 (spelled_by line.1)

-- what follows for a rule, or its refusal
abbrev pub with_rule : Result Rule RuleError → (Rule → Result (List Rule) RuleError)
    → Result (List Rule) RuleError
with_rule (Ok rule) next = next rule
with_rule (Err e) next = Err e

-- these rules and then those of some lines, or the first refusal
abbrev pub rules_from : List Rule → List (ℕ × List ℕ) → Result (List Rule) RuleError
rules_from rules [] = Ok rules
rules_from rules (line ∷ lines) =
    with_rule (rule_at rules line) (λ rule. rules_from (rules ++ rule ∷ []) lines)

-- the rules if one of them is an event rule, otherwise a refusal
abbrev pub with_event : Result (List Rule) RuleError → Result (List Rule) RuleError
with_event (Ok rules) = if list_any (λ rule. is_event rule.form) rules then Ok rules else Err refused.NoEvent
with_event (Err e) = Err e

-- the rules of an expressions file as the grammar reads them, or the plain refusal
abbrev pub rules_of : List ℕ → Result (List Rule) RuleError
rules_of bytes =
    if nat_lt MAX_RULES_BYTES (length bytes) then Err refused.TooLong
    else with_event (rules_from [] (rule_lines bytes))

-- The pattern of the line with this number is built: the file is short enough, each line before this one is a rule,
-- there are fewer than MAX_RULES of them, and this line has the form of a rule.
pub record IsBuilt (bytes : List ℕ) (number : ℕ) (pattern : List ℕ) : Type 0 where
  pub short : length bytes ≤ MAX_RULES_BYTES
  pub before : List (ℕ × List ℕ)
  pub line : List ℕ
  pub after : List (ℕ × List ℕ)
  pub lines : rule_lines bytes ≡ before ++ (number, line) ∷ after
  pub rules : List Rule
  pub read : rules_from [] before ≡ Ok rules
  pub few : length rules < MAX_RULES
  pub form : RuleForm
  pub spelled : spelled_by line ≡ Some (form, pattern)

-- the rules are those of the file, or ones that search alike
abbrev pub AreRead : List ℕ → List Rule → Type 0
AreRead bytes rules = (plain : List Rule) × (rules_of bytes ≡ Ok plain) × AreAlike rules plain

-- why an expressions file is refused with this error
abbrev pub IsRefused : List ℕ → PatternsState → PatternsState → RuleError → Type 0
IsRefused bytes old new refused.Memory = Unit {0}
IsRefused bytes old new (refused.Syntax number) =
    (rules_of bytes ≡ Err (refused.Syntax number))
    ⊎ ((pattern : List ℕ) × IsBuilt bytes number pattern × NestsTooDeep pattern)
IsRefused bytes old new (refused.TooLarge number) =
    Rose old.refusals new.refusals
    × ((pattern : List ℕ) × IsBuilt bytes number pattern × IsTrue (old.may_refuse pattern))
IsRefused bytes old new plain = rules_of bytes ≡ Err plain

-- a refusal leaves the count of refusals unchanged, unless a pattern is refused as too large
abbrev pub KeepsAt : PatternsState → RuleError → PatternsState → Type 0
KeepsAt old (refused.TooLarge number) new = Unit {0}
KeepsAt old other new = new.refusals ≡ old.refusals

-- the count of refusals is unchanged, unless a pattern is refused as too large
abbrev pub KeepsRefusals : {T : Type 0} → PatternsState → Result T RuleError → PatternsState → Type 0
KeepsRefusals old (Ok x) new = new.refusals ≡ old.refusals
KeepsRefusals old (Err e) new = KeepsAt old e new
