-- How the mined lists of the shards of a log give that of the whole.
use Rattle.std.specs.Prelude.{ℕ, ◌≡◌, ◌↔◌, ◌⊎◌, ◌<◌, ◌≤◌, ◌+◌, List, ◌++◌, map, length, All, Contains}
use Rattle.limits.specs.declared.TheConstants.{INITIAL, FIRST_TYPE}
use Rattle.invariants.specs.declared.Kind.TheVariants.{NF, IB}
use Rattle.invariants.specs.declared.Kinds.{Kinds}
use Rattle.invariants.specs.declared.Invariant.{Invariant}
use Rattle.invariants.specs.Candidates.{invariant, candidates_for}
use Rattle.invariants.specs.Mined.{mined_for}
use Rattle.shard_law.specs.Shards.{Occurs, IsShown, Lacks, IsCutInto, Shard, IsNumbered, words_of, Lists}

-- no words both show and lack an invariant
abbrev pub ShownIsThere : Type 0
ShownIsThere = (inv : Invariant) (words : List (List ℕ)) → IsShown inv words → Lacks inv words → ⊥

-- an invariant is mined of two logs together exactly if it is a candidate that each of them shows or lacks
abbrev pub TwoLogsJoin : Type 0
TwoLogsJoin =
    (kinds : Kinds) (count : ℕ) (first second : List (List ℕ)) (inv : Invariant)
    → Contains (mined_for kinds count (first ++ second)) inv
    ↔ (Contains (candidates_for kinds count) inv
    × (IsShown inv first ⊎ Lacks inv first)
    × (IsShown inv second ⊎ Lacks inv second))

-- and so it is for any number of shards
abbrev pub ShardsJoin : Type 0
ShardsJoin =
    (kinds : Kinds) (count : ℕ) (whole : List (List ℕ)) (shards : List (List (List ℕ)))
    → IsCutInto whole shards → (inv : Invariant)
    → Contains (mined_for kinds count whole) inv
    ↔ (Contains (candidates_for kinds count) inv × All (λ words. IsShown inv words ⊎ Lacks inv words) shards)

-- a shard lists a candidate in its own numbers exactly if it shows it
abbrev pub OwnReports : Type 0
OwnReports =
    (kinds : Kinds) (count : ℕ) (shard : Shard) → IsNumbered shard → (inv : Invariant)
    → Contains (candidates_for kinds count) inv
    → Lists kinds shard inv ↔ IsShown inv (words_of shard)

-- so the lists of the shards, each in its own numbers, give the list of the whole
abbrev pub ReportsJoin : Type 0
ReportsJoin =
    (kinds : Kinds) (count : ℕ) (whole : List (List ℕ)) (shards : List Shard)
    → All IsNumbered shards → IsCutInto whole (map words_of shards) → (inv : Invariant)
    → Contains (mined_for kinds count whole) inv
    ↔ (Contains (candidates_for kinds count) inv
    × All (λ shard. Lists kinds shard inv ⊎ Lacks inv (words_of shard)) shards)

-- INITIAL occurs in a shard exactly if it has a word, and a type exactly if it is the number of one of its types
abbrev pub TypesTell : Type 0
TypesTell =
    (shard : Shard) → IsNumbered shard
    → (Occurs INITIAL (words_of shard) ↔ (0 < length shard.words))
    × ((y : ℕ) → FIRST_TYPE ≤ y
    → Occurs y (words_of shard)
    ↔ ((x : ℕ) × (FIRST_TYPE ≤ x) × (x < shard.count + FIRST_TYPE) × (shard.number x ≡ y)))

-- a shard lacks InterruptedBy of a and b exactly if a does not occur in it,
-- or b does not and its list says that no word has a twice
abbrev pub LackIsTold : Type 0
LackIsTold =
    (kinds : Kinds) (count : ℕ) (shard : Shard) → IsNumbered shard
    → (a b : ℕ) → Contains (candidates_for kinds count) (invariant IB a b)
    → Lacks (invariant IB a b) (words_of shard)
    ↔ ((Occurs a (words_of shard) → ⊥)
    ⊎ ((Occurs b (words_of shard) → ⊥) × Lists kinds shard (invariant NF a a)))
