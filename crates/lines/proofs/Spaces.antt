-- The first space, from a look at some bytes together.
use Rattle.std.proofs.Common.{◌≡◌, ◌≢◌, ℕ, ◌+◌, ◌<◌, ◌≤◌, ◌==◌, List, length, get_or, take, drop, inl, inr}
use Rattle.std.proofs.lemmas.Bool.{cases_lt, eqb-false}
use Rattle.std.proofs.lemmas.Simd.{run_in_chunk_fails}
use Rattle.std.specs.List.{position_or_len}

-- no byte before the first space of a look at n bytes is a space, where none is before the look
pub none-before : (bytes : List ℕ) (seen n before : ℕ) → ((k : ℕ) → k < seen → get_or bytes k 0 ≢ 32) → seen + n ≤ length bytes
    → before ≡ position_or_len (λ b. b == 32) (take n (drop seen bytes)) → (k : ℕ) → k < seen + before → get_or bytes k 0 ≢ 32
none-before bytes seen n before none room counted k below =
    elim (cases_lt k seen) [
      | inl early ↦ none k early
      | inr late ↦ eqb-false _ _ (run_in_chunk_fails (λ b. b == 32) bytes seen n before 0 room counted k late below)
    ]
