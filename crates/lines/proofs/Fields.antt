-- The fields of a line, by the place of its first space.
use Rattle.std.proofs.Common.{◌≡◌, ◌≢◌, ℕ, ◌+◌, ◌<◌, ◌≤◌, ◌==◌, List, length, get_or, take, drop, Option, Some, None, true, false, ap, ◌∙◌, arith, length-drop, nat_lt, if◌then◌else◌}
use Rattle.std.proofs.lemmas.Bool.{cond-true, cond-false, eq-eqb, ne_eqb}
use Rattle.std.proofs.lemmas.Bool.Decides.{nat_tests}
use Rattle.std.proofs.lemmas.List.Sums.{position_or_len_is}
use Rattle.lines.specs.Lines.{plain_fields_of}

-- what stands before a place and behind it, where something stands behind it
abbrev fields_at : List ℕ → ℕ → Option (List ℕ × List ℕ)
fields_at text at = if nat_lt 0 (length (drop (at + 1) text)) then Some (take at text, drop (at + 1) text) else None

-- the fields are those at the first space, or at the end where there is none
at-first : (text : List ℕ) (at : ℕ) → at ≤ length text → ((k : ℕ) → k < at → get_or text k 0 ≢ 32) → (at < length text → get_or text at 0 ≡ 32) → plain_fields_of text ≡ fields_at text at
at-first text at within before here =
    ap (fields_at text) (position_or_len_is (λ b. b == 32) text at 0 within (λ k below. ne_eqb _ _ (before k below)) (λ inside. eq-eqb _ _ (here inside)))

-- a line with something behind its first space
pub fields-some : (text : List ℕ) (at : ℕ) → at < length text → get_or text at 0 ≡ 32 → ((k : ℕ) → k < at → get_or text k 0 ≢ 32) → 0 < length (drop (at + 1) text) → plain_fields_of text ≡ Some (take at text, drop (at + 1) text)
fields-some text at inside here before more =
    let test : nat_lt 0 (length (drop (at + 1) text)) ≡ true = grind (arith, nat_tests) in
    at-first text at (omega arith) before (λ _. here) ∙ cond-true _ _ _ test

-- nothing behind the place
fields-none : (text : List ℕ) (at : ℕ) → length (drop (at + 1) text) ≡ 0 → fields_at text at ≡ None
fields-none text at none =
    let test : nat_lt 0 (length (drop (at + 1) text)) ≡ false = grind (arith, nat_tests) in
    cond-false _ _ _ test

-- a line with nothing behind its first space
pub no-type : (text : List ℕ) (at : ℕ) → at < length text → get_or text at 0 ≡ 32 → ((k : ℕ) → k < at → get_or text k 0 ≢ 32) → length (drop (at + 1) text) ≡ 0 → plain_fields_of text ≡ None
no-type text at inside here before none = at-first text at (omega arith) before (λ _. here) ∙ fields-none text at none

-- a line with no space
pub no-space : (text : List ℕ) → ((k : ℕ) → k < length text → get_or text k 0 ≢ 32) → plain_fields_of text ≡ None
no-space text before =
    at-first text (length text) (omega arith) before (λ inside. absurd (omega arith))
    ∙ fields-none text (length text) (omega (arith, length-drop (length text + 1) text))
