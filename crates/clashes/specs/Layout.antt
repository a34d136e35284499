-- How the rows are laid out in one table: masks for what types do, and the rows of the ids.
use Rattle.std.specs.Prelude.{ℕ, ◌≡◌, ◌≢◌, ◌+◌, ◌*◌, ◌<◌, ◌≤◌, Bool, true, false, List, [], ◌∷◌, length, drop, slice_get, Some}
use Rattle.limits.specs.declared.TheConstants.{LAST_TYPE, MAX_INVARIANTS, MAX_PARTITIONS}
use Rattle.invariants.specs.declared.Invariant.{Invariant}
use Rattle.bit_rows.specs.Tables.{HasShape}
use Rattle.clashes.specs.declared.places.TheConstants.{START, BAD, FIRST_MASK, MASKS}
use Rattle.clashes.specs.Rules.{enters, stays, falls, starts, is_bad_itself, AreNamedBelow}
use Rattle.clashes.specs.Marks.{Marks, on}

-- the mask of a type: the invariants that it brings into the critical state
abbrev pub enters_row : ℕ → ℕ
enters_row x = FIRST_MASK + x * MASKS

-- the mask of a type: the invariants that it leaves in the critical state
abbrev pub stays_row : ℕ → ℕ
stays_row x = FIRST_MASK + x * MASKS + 1

-- the mask of a type: the invariants that fall from the critical state into the bad one
abbrev pub falls_row : ℕ → ℕ
falls_row x = FIRST_MASK + x * MASKS + 2

-- the first row of ids, behind the masks; the last masks are for all types from this one on
abbrev pub ids_from : ℕ → ℕ
ids_from others = FIRST_MASK + (others + 1) * MASKS

-- the row of an id for its marks of a critical state that is reached
abbrev pub fore_row : ℕ → ℕ → ℕ
fore_row others p = ids_from others + p * 2

-- the row of an id for its marks of a bad end ahead
abbrev pub back_row : ℕ → ℕ → ℕ
back_row others p = ids_from others + p * 2 + 1

-- how many rows there are
abbrev pub row_count : ℕ → ℕ
row_count others = ids_from others + 2 * MAX_PARTITIONS

-- every other row, from the first on
abbrev pub evens : List (List Bool) → List (List Bool)
evens [] = []
evens (x ∷ []) = x ∷ []
evens (x ∷ y ∷ rows) = x ∷ evens rows

-- every other row, from the second on
abbrev pub odds : List (List Bool) → List (List Bool)
odds [] = []
odds (x ∷ []) = []
odds (x ∷ y ∷ rows) = y ∷ odds rows

-- the rows for critical states that are reached
abbrev pub fores_in : ℕ → List (List Bool) → List (List Bool)
fores_in others rows = evens (drop (ids_from others) rows)

-- the rows for bad ends ahead
abbrev pub backs_in : ℕ → List (List Bool) → List (List Bool)
backs_in others rows = odds (drop (ids_from others) rows)

-- the marks that the table contains, as callers see them
abbrev pub marks_in : List Invariant → ℕ → List (List Bool) → Marks
marks_in invs others rows = record { invs = invs; fores = fores_in others rows; backs = backs_in others rows }

-- the table has this layout, and each row has a bit k
abbrev pub HasPlace : List (List Bool) → ℕ → ℕ → Type 0
HasPlace rows others k = (bits : ℕ) × (k < bits) × HasShape rows (row_count others) bits

-- bit k of the masks says that types below n leave the invariant in its state
pub record IsIdle (rows : List (List Bool)) (n k : ℕ) : Type 0 where
  pub enters : (x : ℕ) → x < n → on rows (enters_row x) k ≡ false
  pub stays : (x : ℕ) → x < n → on rows (stays_row x) k ≡ true
  pub falls : (x : ℕ) → x < n → on rows (falls_row x) k ≡ false

-- bit k of each mask says what the type does to this invariant, for types below n
pub record IsColumn (rows : List (List Bool)) (n k : ℕ) (inv : Invariant) : Type 0 where
  pub enters : (x : ℕ) → x < n → on rows (enters_row x) k ≡ enters inv x
  pub stays : (x : ℕ) → x < n → on rows (stays_row x) k ≡ stays inv x
  pub falls : (x : ℕ) → x < n → on rows (falls_row x) k ≡ falls inv x
  pub starts : on rows START k ≡ starts inv
  pub bad : on rows BAD k ≡ is_bad_itself inv

-- bit k of the three masks of type x says what it does to this invariant; all other bits stay
pub record IsMasked (old new : List (List Bool)) (x k : ℕ) (inv : Invariant) : Type 0 where
  pub enters : on new (enters_row x) k ≡ enters inv x
  pub stays : on new (stays_row x) k ≡ stays inv x
  pub falls : on new (falls_row x) k ≡ falls inv x
  pub places : (r j : ℕ) → j ≢ k → on new r j ≡ on old r j
  pub rows : (r j : ℕ) → r ≢ enters_row x → r ≢ stays_row x → r ≢ falls_row x → on new r j ≡ on old r j

-- the first n invariants of the list have their columns
abbrev pub AreColumns : List (List Bool) → ℕ → List Invariant → ℕ → Type 0
AreColumns rows others invs n =
    (k : ℕ) (inv : Invariant) → k < n → slice_get invs k ≡ Some inv → IsColumn rows (others + 1) k inv

-- a table of this layout, with the masks of these invariants if they are written; else nothing is on in it so far
pub record IsKept (invs : List Invariant) (others : ℕ) (masked : Bool) (rows : List (List Bool)) : Type 0 where
  pub shape : HasShape rows (row_count others) (length invs)
  pub few : length invs ≤ MAX_INVARIANTS
  pub low : others ≤ LAST_TYPE + 1
  pub named : AreNamedBelow others invs
  pub columns : masked ≡ true → AreColumns rows others invs (length invs)
  pub blank : masked ≡ false → (r k : ℕ) → on rows r k ≡ false

-- a table of this layout with the masks of these invariants
pub record IsLaid (invs : List Invariant) (others : ℕ) (rows : List (List Bool)) : Type 0 where
  pub shape : HasShape rows (row_count others) (length invs)
  pub few : length invs ≤ MAX_INVARIANTS
  pub low : others ≤ LAST_TYPE + 1
  pub named : AreNamedBelow others invs
  pub columns : AreColumns rows others invs (length invs)
