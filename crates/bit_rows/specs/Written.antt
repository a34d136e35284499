-- What the loops over words leave.
use Rattle.std.specs.Prelude.{ℕ, max, ◌^◌, ◌≡◌, ◌≢◌, ◌+◌, ◌<◌, ◌≤◌, Bool, true, false, List, length, slice_index, ◌⊎◌}

-- the word at k places after this one
abbrev pub word : List ℕ → ℕ → ℕ → ℕ
word words at k = slice_index words (at + k)

-- each word has 64 bits
abbrev pub AllFit : List ℕ → Type 0
AllFit words = (k : ℕ) → slice_index words k < 2 ^ 64

-- two runs of n words do not overlap
abbrev pub IsApart : ℕ → ℕ → ℕ → Type 0
IsApart a b n = (a + n ≤ b) ⊎ (b + n ≤ a)

-- there are at least n words, and any that were appended are 0
pub record IsReached (old new : List ℕ) (n : ℕ) : Type 0 where
  pub size : length new ≡ max (length old) n
  pub same : (k : ℕ) → slice_index new k ≡ slice_index old k

-- n words from a place on are the given ones, and the others are unchanged
pub record IsWritten (old new : List ℕ) (at n : ℕ) (given : ℕ → ℕ) : Type 0 where
  pub size : length new ≡ length old
  pub inside : (k : ℕ) → k < n → word new at k ≡ given k
  pub before : (k : ℕ) → k < at → slice_index new k ≡ slice_index old k
  pub behind : (k : ℕ) → at + n ≤ k → slice_index new k ≡ slice_index old k

-- the number is 0 exactly if the first n words of two runs are equal
pub record HasSeen (n : ℕ) (one other : ℕ → ℕ) (more : ℕ) : Type 0 where
  pub none : more ≡ 0 → (k : ℕ) → k < n → one k ≡ other k
  pub some : 0 < more → (k : ℕ) × (k < n) × (one k ≢ other k)

-- the answer is true exactly if the first n words of two runs differ
pub record TellsChange (n : ℕ) (one other : ℕ → ℕ) (changed : Bool) : Type 0 where
  pub none : changed ≡ false → (k : ℕ) → k < n → one k ≡ other k
  pub some : changed ≡ true → (k : ℕ) × (k < n) × (one k ≢ other k)
