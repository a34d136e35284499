-- Rules and matchers as contracts see them.
use Rattle.std.specs.Prelude.{◌≡◌, ◌<◌, ◌≤◌, length, List, map, None, option_and_then, string_bytes}
use Rattle.limits.specs.declared.TheConstants.{MAX_TYPE_BYTES}
use Rattle.regex.specs.Patterns.{Match}
use Rattle.regex.specs.Strings.{regex_pattern, regex_names}
use Rattle.line_rules.specs.Rules as spec
use Rattle.line_rules.specs.declared.rule.RuleForm.{RuleForm}
use Rattle.line_rules.specs.declared.rule.RuleForm.TheVariants.{Skip, Separator, Event, EventOf}
use Rattle.line_rules.specs.declared.rule.Rule.{Rule}
use Rattle.line_rules.specs.declared.spans.Spans.{Spans}
use Rattle.line_rules.specs.declared.spelling.Word.{Word}
use Rattle.line_rules.specs.declared.spelling.Word.TheVariants as word
use Rattle.line_rules.specs.declared.matchers.RuleMatcher.{RuleMatcher}
use Rattle.line_rules.specs.declared.matchers.Matchers.{Matchers}
use Rattle.line_rules.specs.declared.line_rules.LineRules.{LineRules}

-- the form of a rule
abbrev pub form_view : RuleForm → spec.RuleForm
form_view Skip = spec.Skip
form_view Separator = spec.Separator
form_view Event = spec.Event
form_view (EventOf name) = spec.EventOf (string_bytes name.text)

-- the form that a word spells
abbrev pub word_view : Word → spec.RuleForm
word_view word.Skip = spec.Skip
word_view word.Separator = spec.Separator
word_view word.Event = spec.Event
word_view (word.EventOf name) = spec.EventOf name.now

-- the name in a word has 1 to 256 bytes
abbrev pub HasShortName : Word → Type 0
HasShortName word.Skip = Unit {0}
HasShortName word.Separator = Unit {0}
HasShortName word.Event = Unit {0}
HasShortName (word.EventOf name) = (0 < length name.now) × (length name.now ≤ MAX_TYPE_BYTES)

-- a rule with its pattern and the names of its groups
abbrev pub rule_view : Rule → spec.Rule
rule_view r = record { form = form_view r.form; re = regex_pattern r.regex; names = regex_names r.regex }

-- the rule uses none of the groups of its pattern
pub record UsesNoGroup (r : Rule) : Type 0 where
  pub typ : r.type_group ≡ None
  pub trace : r.trace_group ≡ None
  pub time : r.time_group ≡ None

-- the spans of the groups of a rule in a match
abbrev pub spans_of : Rule → Match → Spans
spans_of r m = record {
  typ = option_and_then (spec.span_of m) r.type_group;
  trace = option_and_then (spec.span_of m) r.trace_group;
  time = option_and_then (spec.span_of m) r.time_group;
}

-- the rules that some matchers search for, in their order
abbrev pub matcher_rules : List RuleMatcher → List spec.Rule
matcher_rules ms = map (λ m. rule_view m.rule.now) ms

-- the rules of a file, in its order
unfoldable pub rules_in : LineRules → List spec.Rule
rules_in rules = map rule_view rules.rules.items

-- the rules that matchers search for
unfoldable pub matched_rules : Matchers → List spec.Rule
matched_rules matchers = matcher_rules matchers.rules.items
