-- What was read of the named input, by what was left of it before and after.
use Rattle.std.proofs.Common.{◌≡◌, ℕ, ◌+◌, ◌<◌, ◌≤◌, List, [], ◌++◌, length, take, drop, Option, Some, None, ap, sym, ◌∙◌, arith, ⊎_elim, append-nil, take_all, true≢false}
use Rattle.std.proofs.lemmas.Bool.{cases_lt}
use Rattle.std.proofs.lemmas.List.{take_at, drop_at, drop_all}
use Rattle.std.specs.Io.KnownBytes.{Consumes, IsAtEnd}
use Rattle.outside.specs.Inputs.{Files, TellsFile}
use Rattle.outside.specs.Reading.{IfTold}

-- bytes that were read up to the limit or the end are the first ones of the content, and the others are left
front-read : (content rest bytes : List ℕ) (limit : ℕ) → content ≡ bytes ++ rest → length bytes ≤ limit + 1 → (length bytes ≤ limit → rest ≡ [])
    → (bytes ≡ take (limit + 1) content) × (rest ≡ drop (limit + 1) content)
front-read content rest bytes limit is short at_end = ⊎_elim
    (λ (over : limit < length bytes).
    let whole : length bytes ≡ limit + 1 = omega arith in
    (sym (ap (take (limit + 1)) is ∙ take_at bytes rest (limit + 1) whole), sym (ap (drop (limit + 1)) is ∙ drop_at bytes rest (limit + 1) whole)))
    (λ (within : length bytes ≤ limit).
    let same : content ≡ bytes = is ∙ (ap (λ r. bytes ++ r) (at_end within) ∙ append-nil bytes) in
    let all : length content ≤ limit + 1 = omega (arith, ap length same) in
    (sym (take_all (limit + 1) content all ∙ same), at_end within ∙ sym (drop_all (limit + 1) content all)))
    (cases_lt limit (length bytes))

-- so it is of the named input, where it is told
pub told-read : (files : Option Files) (name : List ℕ) (before after : Option (List ℕ)) (bytes : List ℕ) (limit : ℕ)
    → TellsFile files name before → Consumes before after bytes → length bytes ≤ limit + 1 → (length bytes ≤ limit → IsAtEnd after)
    → IfTold files name (λ content. (bytes ≡ take (limit + 1) content) × (after ≡ Some (drop (limit + 1) content)))
told-read None name before after bytes limit tells consumes short at_end = tt
told-read (Some files) name None after bytes limit tells consumes short at_end = absurd (true≢false (sym tells.0))
told-read (Some files) name (Some content) None bytes limit tells consumes short at_end = absurd consumes
told-read (Some files) name (Some content) (Some rest) bytes limit tells consumes short at_end =
    let parts = front-read content rest bytes limit consumes short at_end in
    (content, sym tells.1, (parts.0, ap (λ (r : List ℕ). Some r) parts.1))
