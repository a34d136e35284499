-- Rows that have no bit in common.
use Rattle.std.proofs.Common.{◌≡◌, ℕ, ◌*◌, ◌/◌, ◌%◌, ◌<◌, ◌≤◌, Bool, false, ◌&&◌, ◌||◌, eqb, List, length, sym, ap, ap₂, ◌∙◌, arith}
use Rattle.std.proofs.lemmas.Nat.Bits.{bit_at-zero}
use Rattle.std.specs.Int.{bit_at}
use Rattle.std.specs.Int.Bits.{bit_or}
use lib.Bits.{bit_and}
use Rattle.bit_rows.specs.Tables.{row_at, is_set, bit_of, table_of, IsLaidOut}
use Rattle.bit_rows.specs.Written.{word}
use Rattle.bit_rows.proofs.Bitwise.{or_bit, and_bit}
use Rattle.bit_rows.proofs.Done.{source}

-- where the first blocks of four runs of words have no bit in common, the rows have none
pub no-common : (view : List (List Bool)) (ws mid : List ℕ) (w rows bits a b c d n : ℕ) → view ≡ table_of ws w rows bits → IsLaidOut ws w rows bits → mid ≡ ws
    → a < length view → b < length view → c < length view → d < length view → n * 512 ≤ bits
    → ((k : ℕ) → k < n * 8 → bit_or (bit_and (word mid (a * w) k) (word mid (b * w) k)) (bit_and (word mid (c * w) k) (word mid (d * w) k)) ≡ 0)
    → (i : ℕ) → i < n * 512 → ((is_set (row_at view a) i && is_set (row_at view b) i) || (is_set (row_at view c) i && is_set (row_at view d) i)) ≡ false
no-common view ws mid w rows bits a b c d n seen laid lent ha hb hc hd few none i below =
    let k : ℕ = i / 64 in
    let j : ℕ = i % 64 in
    let wide : i < w * 64 = omega (arith, below, few, laid.room) in
    let inside : k < n * 8 = omega (arith, below) in
    let bit : (r : ℕ) → r < length view → eqb (bit_at (word mid (r * w) k) j) 1 ≡ is_set (row_at view r) i =
    λ r hr. ap (λ m. bit_of m w r i) lent ∙ source view ws w rows bits r i seen laid hr wide in
    let pair : (r s : ℕ) → r < length view → s < length view → eqb (bit_at (bit_and (word mid (r * w) k) (word mid (s * w) k)) j) 1 ≡ (is_set (row_at view r) i && is_set (row_at view s) i) =
    λ r s hr hs. and_bit (word mid (r * w) k) (word mid (s * w) k) j ∙ ap₂ (λ x y. x && y) (bit r hr) (bit s hs) in
    let one : ℕ = bit_and (word mid (a * w) k) (word mid (b * w) k) in
    let other : ℕ = bit_and (word mid (c * w) k) (word mid (d * w) k) in
    sym (or_bit one other j ∙ ap₂ (λ x y. x || y) (pair a b ha hb) (pair c d hc hd)) ∙ ap (λ z. eqb (bit_at z j) 1) (none k inside) ∙ ap (λ z. eqb z 1) (bit_at-zero j)
