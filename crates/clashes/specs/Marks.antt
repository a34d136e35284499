-- The marks of each invariant at each id, and which pairs of ids clash.
use Rattle.std.specs.Prelude.{ℕ, ◌≡◌, ◌↔◌, ◌<◌, ◌&&◌, ◌||◌, Bool, true, false, List, length, slice_get, Some}
use Rattle.limits.specs.declared.TheConstants.{MAX_PARTITIONS}
use Rattle.invariants.specs.declared.Invariant.{Invariant}
use Rattle.bit_rows.specs.Tables.{row_at, is_set}
use Rattle.partition_model.specs.Graphs.{Graph, Satisfies}
use Rattle.merge_law.specs.Critical.{Fore, Back, IsOnPath}

-- invariants, and for each id two rows with a bit for each of them
pub record Marks : Type 0 where
  pub invs : List Invariant
  pub fores : List (List Bool)
  pub backs : List (List Bool)

-- the bit of invariant k in the row of an id
abbrev pub on : List (List Bool) → ℕ → ℕ → Bool
on rows p k = is_set (row_at rows p) k

-- whether p is marked as reached in the critical state of invariant k
abbrev pub is_met : Marks → ℕ → ℕ → Bool
is_met marks k p = on marks.fores p k

-- whether p is marked as having the bad end of invariant k ahead of its critical state
abbrev pub is_ahead : Marks → ℕ → ℕ → Bool
is_ahead marks k p = on marks.backs p k

-- the marks are exact for each invariant that the graph satisfies, at each id on a path
pub record AreMarksOf (marks : Marks) (g : Graph) : Type 0 where
  pub fore : (k p : ℕ) (inv : Invariant) → slice_get marks.invs k ≡ Some inv → Satisfies g inv
      → p < MAX_PARTITIONS → IsOnPath g p → (is_met marks k p ≡ true) ↔ Fore inv g p
  pub back : (k p : ℕ) (inv : Invariant) → slice_get marks.invs k ≡ Some inv → Satisfies g inv
      → p < MAX_PARTITIONS → IsOnPath g p → (is_ahead marks k p ≡ true) ↔ Back inv g p

-- whether one of the two ids is marked as reached in the critical state, and the other as having the bad end ahead
abbrev pub has_clash : Marks → ℕ → ℕ → ℕ → Bool
has_clash marks k p q = (is_met marks k p && is_ahead marks k q) || (is_met marks k q && is_ahead marks k p)

-- the two ids clash for no invariant
abbrev pub NoClash : Marks → ℕ → ℕ → Type 0
NoClash marks p q = (k : ℕ) → k < length marks.invs → has_clash marks k p q ≡ false

-- the two ids clash for the invariant with this number and for none before it
pub record IsFirstClash (marks : Marks) (p q k : ℕ) : Type 0 where
  pub within : k < length marks.invs
  pub clash : has_clash marks k p q ≡ true
  pub first : (j : ℕ) → j < k → has_clash marks j p q ≡ false
