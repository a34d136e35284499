-- Edge counts after the edges of one id move to another.
use Rattle.std.specs.Prelude.{ℕ, ◌+◌, ◌==◌, if◌then◌else◌}

-- edges from q are counted as edges from p
abbrev pub with_targets : ℕ → ℕ → (ℕ → ℕ → ℕ) → ℕ → ℕ → ℕ
with_targets p q counts a b = if a == q then 0 else counts a b + (if a == p then counts q b else 0)

-- edges to q are counted as edges to p
abbrev pub with_sources : ℕ → ℕ → (ℕ → ℕ → ℕ) → ℕ → ℕ → ℕ
with_sources p q counts a b = if b == q then 0 else counts a b + (if b == p then counts a q else 0)

-- both; an edge from q to itself is counted as one from p to itself
abbrev pub joined_counts : ℕ → ℕ → (ℕ → ℕ → ℕ) → ℕ → ℕ → ℕ
joined_counts p q counts a b = with_sources p q (with_targets p q counts) a b
