-- Fingerprints of keys.
use Rattle.std.specs.Prelude.{ℕ, ◌≡◌, ◌≤◌, ◌<◌, ◌+◌, ◌*◌, ◌-◌, ◌%◌, ◌^◌, bit_xor, List, [], ◌∷◌, length, take, drop, slice_index, nat_lt, if◌then◌else◌}
use Rattle.std.specs.List.{fold}
use Rattle.std.specs.Int.{w64, from_le_bytes, swap_bytes}
use Rattle.trace_keys.specs.Keys.{Key}
use Rattle.trace_keys.specs.declared.fingerprint.Fingerprint.{Fingerprint}

-- the hash after one byte more
abbrev pub hash_step : ℕ → ℕ → ℕ
hash_step hash b = (bit_xor hash b * 1099511628211) % 2 ^ 64

-- a hash of bytes
unfoldable pub hash_of_bytes : List ℕ → ℕ
hash_of_bytes bytes = fold hash_step 0 bytes

-- bytes as a number, the least significant first
abbrev pub number_of : List ℕ → ℕ
number_of [] = 0
number_of (b ∷ bytes) = b + number_of bytes * 256

-- the first 8 bytes of a text as a number, or the hash of a text of more than 16 bytes
unfoldable pub low_of : List ℕ → ℕ
low_of bytes =
    if nat_lt 16 (length bytes) then hash_of_bytes bytes else if nat_lt 7 (length bytes) then from_le_bytes w64 (take 8 (drop 0 bytes)) else number_of bytes

-- the last 8 bytes of a text as a number, or 0 if it has fewer
unfoldable pub high_of : List ℕ → ℕ
high_of bytes = if nat_lt 7 (length bytes) then from_le_bytes w64 (take 8 (drop (length bytes - 8) bytes)) else 0

-- these two numbers with their bytes in reverse order
unfoldable pub front_of : List ℕ → ℕ
front_of bytes = swap_bytes w64 (low_of bytes)

unfoldable pub end_of : List ℕ → ℕ
end_of bytes = swap_bytes w64 (high_of bytes)

-- a text that is known from its two words: at most 16 bytes
abbrev pub IsTold : List ℕ → Type 0
IsTold text = (length text ≤ 16) × ((i : ℕ) → slice_index text i < 256)

-- these are the two words of a text, if it has at most 16 bytes
abbrev pub HasWords : List ℕ → ℕ → ℕ → Type 0
HasWords bytes low high = length bytes ≤ 16 → (low ≡ low_of bytes) × (high ≡ high_of bytes)

-- the fingerprint of a key: its numbers, and its text's length and words
abbrev pub fingerprint_of : Key → Fingerprint
fingerprint_of key = record { low = low_of key.text; high = high_of key.text; file = key.file; section = key.section; length = length key.text }

-- the number that a fingerprint is mixed to
unfoldable pub mix_of : Fingerprint → ℕ
mix_of fingerprint = bit_xor ((fingerprint.low * 11400714819323198485) % 2 ^ 64) ((bit_xor fingerprint.high (fingerprint.file * 2 ^ 32 + fingerprint.section) * 14029467366897019727) % 2 ^ 64)
