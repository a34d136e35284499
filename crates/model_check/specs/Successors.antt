-- Sets of ids by number, and the sets that types lead to.
use Rattle.std.specs.Prelude.{ℕ, ◌≡◌, ◌↔◌, ◌+◌, ◌*◌, ◌<◌, ◌≤◌, ◌==◌, nat_lt, Bool, true, List, slice_index, if◌then◌else◌}
use Rattle.limits.specs.declared.TheConstants.{MAX_PARTITIONS}
use Rattle.model_check.specs.declared.rows.IdRows.{IdRows}
use Rattle.model_check.specs.Rows.{bit}
use Rattle.model_check.specs.declared.sets.TheConstants.{MEMBERS, KEPT, ROWS, TYPES}

-- the number of an id, or that of one of the first rows kept
abbrev pub IsSet : ℕ → ℕ → Type 0
IsSet kept set = (set < KEPT + kept) × (MAX_PARTITIONS ≤ set → KEPT ≤ set)

-- whether an id is in the set of a number: the set of an id has only that id, and any other set is a row
abbrev pub in_set : IdRows → ℕ → ℕ → Bool
in_set rows set q = if nat_lt set MAX_PARTITIONS then q == set else bit rows set q

-- the ids of the type that edges lead to from a set
abbrev pub IsEnteredFrom : (ℕ → Bool) → IdRows → ℕ → ℕ → Type 0
IsEnteredFrom set rows typ q =
    (p : ℕ) × (set p ≡ true) × (bit rows p q ≡ true) × (bit rows (MEMBERS + typ) q ≡ true)

-- the number recorded for a set and a type, or 0 for none; the list has a row of sets for each of the first types
abbrev pub known : List ℕ → ℕ → ℕ → ℕ
known numbers set typ = slice_index numbers (typ * ROWS + set)

-- the type leads from one set to the other
pub record Leads (rows : IdRows) (kept set typ next : ℕ) : Type 0 where
  pub from : IsSet kept set
  pub to : IsSet kept next
  pub entered : (q : ℕ) → (in_set rows next q ≡ true) ↔ IsEnteredFrom (in_set rows set) rows typ q

-- each recorded number is that of the set that the type leads to
abbrev pub AreSuccessors : IdRows → List ℕ → ℕ → Type 0
AreSuccessors rows numbers kept =
    (set typ : ℕ) → set < ROWS → typ < TYPES → 0 < known numbers set typ → Leads rows kept set typ (known numbers set typ)
