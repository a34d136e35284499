use Rattle.std.proofs.Common.{◌≡◌, ℕ, ◌+◌, ◌-◌, ◌≤◌, List, length, take, drop, ap, sym, ◌∙◌, arith, rules}
use Rattle.std.proofs.lemmas.Str.{IsCharBoundary-before_ascii, IsCharBoundary-after_ascii}
use Rattle.std.proofs.lemmas.List.{length-drop}
use Rattle.lines.proofs.Ahead.{rest-ahead}
use Rattle.lines.proofs.Fields.{fields-some, no-type, no-space}
use Rattle.lines.proofs.plain.plain_fields_ahead.Goals as goal

pub range-text-requires : goal.range-text-requires
range-text-requires c =
    let found = rw c.as_bytes.ensures.value at c.in_ok-space.ensures in
    record { start_le_end = omega arith; start_boundary = λ none. absurd (omega arith); end_boundary = IsCharBoundary-before_ascii _ _ found.0 (omega (arith, found.1)) }

pub range_from-type_text-requires : goal.range_from-type_text-requires
range_from-type_text-requires c _ =
    let found = rw c.as_bytes.ensures.value at c.in_ok-space.ensures in
    IsCharBoundary-after_ascii _ _ c.utf8.line found.0 (omega (arith, found.1))

pub returns-in_err-space-clause-fields : goal.returns-in_err-space-clause-fields
returns-in_err-space-clause-fields c =
    let none = rw c.as_bytes.ensures.value at c.in_err-space.ensures in
    rw (no-space c.args.line.now none) (search rules)

pub returns-then-is_empty-clause-fields : goal.returns-then-is_empty-clause-fields
returns-then-is_empty-clause-fields c =
    let found = rw c.as_bytes.ensures.value at c.in_ok-space.ensures in
    rw (no-type c.args.line.now c.in_ok-space.space found.0 found.1 found.2 (search rules)) (search rules)

pub returns-else-is_empty-clause-fields : goal.returns-else-is_empty-clause-fields
returns-else-is_empty-clause-fields c =
    let found = rw c.as_bytes.ensures.value at c.in_ok-space.ensures in
    rw (fields-some c.args.line.now c.in_ok-space.space found.0 found.1 found.2 (search rules)) (search rules)

pub returns-else-is_empty-clause-type_text : goal.returns-else-is_empty-clause-type_text
returns-else-is_empty-clause-type_text c =
    let line : List ℕ = c.args.line.now in
    let bytes : List ℕ = c.args.bytes.now in
    let n : ℕ = c.in_ok-space.space + 1 in
    let found = rw c.as_bytes.ensures.value at c.in_ok-space.ensures in
    let inside : n ≤ length line = omega (arith, found.0) in
    let type_text : c.range_from-type_text.result.now ≡ drop n line = c.range_from-type_text.ensures.value in
    let long : length c.range_from-type_text.result.now ≡ length line - n = omega (arith, ap length type_text, length-drop n line) in
    ap (λ m. take m (take (length bytes - n) (drop n bytes))) long ∙ (rest-ahead line bytes n c.requires.begins inside ∙ sym type_text)
