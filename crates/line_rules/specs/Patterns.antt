-- What an object that builds patterns holds, and what `build` leaves.
use Rattle.std.specs.Prelude.{ℕ, ◌≡◌, ◌≤◌, ◌<◌, ◌+◌, ◌-◌, ◌^◌, ◌⊎◌, Bool, List, Option, None, IsTrue, IsSomeAnd, Result, Ok, Err, min, chars}
use Rattle.regex.specs.Patterns.{Re, default_config, SameCaptures}
use Rattle.regex.specs.Strings.{regex_pattern, regex_names}
use Rattle.regex.specs.declared.string.regex.Regex.{Regex}
use Rattle.regex_syntax.specs.Grammar.{read}
use Rattle.line_rules.specs.declared.patterns.BuildFault.{BuildFault}
use Rattle.line_rules.specs.declared.patterns.BuildFault.TheVariants.{Syntax, TooLarge, Memory}

-- the count rose, or is 2^64 - 1
abbrev pub Rose : ℕ → ℕ → Type 0
Rose before now = min (before + 1) (2 ^ 64 - 1) ≤ now

-- the number of the next build, which stops at 2^64 - 1
abbrev pub next_build : ℕ → ℕ
next_build builds = min (builds + 1) (2 ^ 64 - 1)

-- what contracts see of an object that builds patterns
pub record PatternsState : Type 0 where
  -- how many texts it refused as too large
  pub refusals : ℕ
  -- the texts that it may refuse as too large
  pub may_refuse : List ℕ → Bool

-- no call changes these texts, and the count of refusals never falls
pub record Stays (old new : PatternsState) : Type 0 where
  pub may_refuse : new.may_refuse ≡ old.may_refuse
  pub refusals : old.refusals ≤ new.refusals

-- how deep a pattern that is built may nest: the default limit of `regex`
abbrev pub max_depth : ℕ
max_depth = 250

-- the pattern and the names of its groups are what the grammar reads from the text
abbrev pub IsReadAs : List ℕ → Re → List (Option (List ℕ)) → Type 0
IsReadAs text re names = IsSomeAnd (read default_config (chars text)) (λ (tree, found).
    (tree.depth ≤ max_depth) × SameCaptures re tree.value × (names ≡ found))

-- the grammar reads no pattern from the text
abbrev pub IsNoPattern : List ℕ → Type 0
IsNoPattern text = read default_config (chars text) ≡ None

-- the grammar reads a pattern that nests too deep
abbrev pub NestsTooDeep : List ℕ → Type 0
NestsTooDeep text = IsSomeAnd (read default_config (chars text)) (λ (tree, _). max_depth < tree.depth)

-- what `build(text)` leaves at each answer
abbrev pub BuildGives : PatternsState → List ℕ → Result Regex BuildFault → PatternsState → Type 0
BuildGives old text (Ok regex) new = IsReadAs text (regex_pattern regex) (regex_names regex)
BuildGives old text (Err Syntax) new = IsNoPattern text ⊎ NestsTooDeep text
BuildGives old text (Err TooLarge) new = Rose old.refusals new.refusals × IsTrue (old.may_refuse text)
BuildGives old text (Err Memory) new = Unit {0}

-- the count of refusals is unchanged, unless the text is refused as too large
abbrev pub KeepsCount : {T : Type 0} → PatternsState → Result T BuildFault → PatternsState → Type 0
KeepsCount old (Err TooLarge) new = Unit {0}
KeepsCount old other new = new.refusals ≡ old.refusals
