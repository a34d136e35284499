-- Bytes without which a line has no match of a pattern.
use Rattle.std.specs.Prelude.{◌≡◌, ℕ, ◌<◌, List, false, IfSome, is_some, slice_index, chars}
use Rattle.memchr.specs.Find.{OccursAt}
use Rattle.regex.specs.Patterns.{Re, default_config, find_str}
use Rattle.regex_hir.specs.Meaning.{meaning}
use Rattle.regex_hir.specs.Matches.{Matches}
use Rattle.regex_hir.specs.declared.hir.Hir.{Hir}
use Rattle.regex_syntax.specs.Grammar.{read}

-- each item of a line is a byte
abbrev pub AreBytes : List ℕ → Type 0
AreBytes line = (k : ℕ) → slice_index line k < 256

-- the needle stands nowhere in the line
abbrev pub Lacks : List ℕ → List ℕ → Type 0
Lacks line needle = (k : ℕ) → ¬ OccursAt line needle k

-- a line that lacks the needle has no match of the tree
abbrev pub IsInEach : Hir → List ℕ → Type 0
IsInEach tree needle =
    (line : List ℕ) → AreBytes line → Lacks line needle → (i j : ℕ) → ¬ Matches line (meaning tree) i j

-- a search of a line that lacks the needle finds nothing
abbrev pub IsNeedleFor : Re → List ℕ → Type 0
IsNeedleFor re needle =
    (line : List ℕ) → AreBytes line → Lacks line needle → is_some (find_str re line 0) ≡ false

-- the same of the pattern that the grammar reads from the text
abbrev pub IsNeedleOf : List ℕ → List ℕ → Type 0
IsNeedleOf text needle = IfSome (read default_config (chars text)) (λ (tree, names). IsNeedleFor tree.value needle)
