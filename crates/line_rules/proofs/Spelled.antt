-- What a line spells, by what it is split into.
use Rattle.std.proofs.Common.{◌≡◌, ◌<◌, ℕ, List, length, None, option_map, refl, ap₂, sym, ◌∙◌, ⊎_elim}
use Rattle.std.specs.List.{before_first, after_first}
use Rattle.std.specs.Str.{IsUtf8, is_utf8}
use Rattle.std.proofs.lemmas.Bool.{cases_Bool, lt-ltb}
use Rattle.std.proofs.lemmas.Str.{IsUtf8-from_is_utf8, is_utf8-from_IsUtf8}
use Rattle.line_rules.specs.Files.{spelled_by, is_space, form_of_word}

-- what is no UTF-8 spells nothing
pub no-text : (line : List ℕ) → (IsUtf8 line → ⊥) → spelled_by line ≡ None
no-text line none = ⊎_elim (λ is. absurd (none (IsUtf8-from_is_utf8 line is))) (λ not. rw not refl) (cases_Bool (is_utf8 line))

-- with a pattern the word decides
by-word : (line : List ℕ) → IsUtf8 line → 0 < length (after_first is_space line) → spelled_by line ≡ option_map (λ form. (form, after_first is_space line)) (form_of_word (before_first is_space line))
by-word line text some = rw (is_utf8-from_IsUtf8 line text, lt-ltb 0 (length (after_first is_space line)) some) refl

-- what the word spells
pub word-spells : (line word pattern : List ℕ) → IsUtf8 line → (word ≡ before_first is_space line) × (pattern ≡ after_first is_space line) × (0 < length pattern)
    → spelled_by line ≡ option_map (λ form. (form, pattern)) (form_of_word word)
word-spells line word pattern text parts =
    by-word line text (rw (← parts.1) parts.2)
    ∙ ap₂ (λ w p. option_map (λ form. (form, p)) (form_of_word w)) (sym parts.0) (sym parts.1)
