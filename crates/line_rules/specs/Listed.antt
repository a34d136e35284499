-- Patterns as `regex` builds them, and patterns whose listed builds are refused:
-- what contracts see of them, and what each build leaves.
use Rattle.std.specs.Prelude.{ℕ, ◌≡◌, ◌≤◌, ◌+◌, ◌-◌, ◌^◌, ◌⊎◌, min, List, Contains, true, chars, IsSomeAnd, Result, Ok, Err}
use Rattle.regex.specs.Patterns.{default_config}
use Rattle.regex.specs.Strings.{regex_pattern, regex_names}
use Rattle.regex_syntax.specs.Grammar.{read}
use Rattle.regex.specs.declared.string.regex.Regex.{Regex}
use Rattle.regex.specs.declared.error.Error.{Error}
use Rattle.regex.specs.declared.error.Error.TheVariants as error
use Rattle.line_rules.specs.Patterns.{PatternsState, IsReadAs, IsNoPattern, NestsTooDeep, max_depth, next_build}
use Rattle.line_rules.specs.declared.patterns.BuildFault.{BuildFault}
use Rattle.line_rules.specs.declared.patterns.BuildFault.TheVariants.{Syntax, TooLarge, Memory}

-- the count after one more refusal
abbrev pub raised : ℕ → ℕ
raised refusals = min (refusals + 1) (2 ^ 64 - 1)

-- patterns of `regex` with this count may refuse any text as too large
abbrev pub regex_state : ℕ → PatternsState
regex_state refusals = record { refusals = refusals; may_refuse = λ _. true }

-- how an answer of `regex` is passed on, and the new count: an internal error is passed on as too large
abbrev pub Tells : ℕ → Result Regex Error → Result Regex BuildFault → ℕ → Type 0
Tells old (Ok regex) answer new = (answer ≡ Ok regex) × (new ≡ old)
Tells old (Err (error.Syntax e)) answer new = (answer ≡ Err Syntax) × (new ≡ old)
Tells old (Err error.OutOfMemory) answer new = (answer ≡ Err Memory) × (new ≡ old)
Tells old (Err error.CompiledTooBig) answer new = (answer ≡ Err TooLarge) × (new ≡ raised old)
Tells old (Err error.Internal) answer new = (answer ≡ Err TooLarge) × (new ≡ raised old)

-- the grammar reads a pattern that does not nest too deep
abbrev pub IsPattern : List ℕ → Type 0
IsPattern text = IsSomeAnd (read default_config (chars text)) (λ (tree, _). tree.depth ≤ max_depth)

-- what `build(text)` of `regex` leaves: the count rises exactly if the pattern is refused as too large
abbrev pub RegexGives : ℕ → List ℕ → Result Regex BuildFault → ℕ → Type 0
RegexGives old text (Ok regex) new = IsReadAs text (regex_pattern regex) (regex_names regex) × (new ≡ old)
RegexGives old text (Err Syntax) new = (IsNoPattern text ⊎ NestsTooDeep text) × (new ≡ old)
RegexGives old text (Err TooLarge) new = IsPattern text × (new ≡ raised old)
RegexGives old text (Err Memory) new = new ≡ old

-- what contracts see of patterns whose listed builds are refused
pub record ListedState : Type 0 where
  -- how many texts were refused as too large
  pub refusals : ℕ
  -- the numbers of the builds that are refused as too large
  pub failing : List ℕ
  -- how many builds were asked for
  pub builds : ℕ

-- such patterns may refuse any text as too large
abbrev pub listed_state : ListedState → PatternsState
listed_state s = regex_state s.refusals

-- the next build is one of those that are refused
abbrev pub RefusesNext : ListedState → Type 0
RefusesNext s = Contains s.failing (next_build s.builds)

-- after one more build, with this count of refusals
abbrev pub after_build : ListedState → ℕ → ListedState
after_build old refusals =
    record { refusals = refusals; failing = old.failing; builds = next_build old.builds }

-- what `build(text)` leaves if the build is listed, and if it is not
pub record ListedGives (old : ListedState) (text : List ℕ) (answer : Result Regex BuildFault)
    (new : ListedState) : Type 0 where
  pub listed : RefusesNext old → (answer ≡ Err TooLarge) × (new ≡ after_build old (raised old.refusals))
  pub other : ¬ RefusesNext old → RegexGives old.refusals text answer new.refusals
      × (new ≡ after_build old new.refusals)
