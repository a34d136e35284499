-- A table of rows with a bit for each invariant: which row means what.
use Rattle.std.specs.Prelude.{◌≡◌, ◌≢◌, ◌⊎◌, ℕ, ◌+◌, ◌*◌, ◌<◌, ◌≤◌, ◌==◌, Bool, true, false, not, if◌then◌else◌, List, length, slice_get, Some}
use Rattle.limits.specs.declared.TheConstants.{LAST_TYPE}
use Rattle.invariants.specs.declared.Invariant.{Invariant}
use Rattle.invariants.specs.Monitors.{is_bad}
use Rattle.bit_rows.specs.Tables.{row_at, is_set, HasShape}
use Rattle.labelling.specs.declared.layout.TheConstants.{STATES, LABEL_ROWS, BROKEN_ROW, FIRST_ROWS, MOVE_ROWS, MOVES}
use Rattle.labelling.specs.Phases.{first_phase, turn}

-- the row for a bad phase
abbrev pub bad_row : ℕ → ℕ
bad_row s = s

-- the row for a phase in which monitors are at INITIAL
abbrev pub first_row : ℕ → ℕ
first_row s = FIRST_ROWS + s

-- the first row of the moves at the type x
abbrev pub moves_row : ℕ → ℕ
moves_row x = MOVE_ROWS + x * MOVES

-- the place of the move from s to t among these rows; both moves from phase 0 share one row
abbrev pub move_place : ℕ → ℕ → ℕ
move_place s t = if s == 0 then 0 else t + 1

-- the row of the move from s to t at the type x
abbrev pub move_row : ℕ → ℕ → ℕ → ℕ
move_row x s t = moves_row x + move_place s t

-- the first row of labels; the rows before it do not depend on the graph
abbrev pub labels_from : ℕ → ℕ
labels_from bound = MOVE_ROWS + (bound + 1) * MOVES

-- how many rows there are
abbrev pub row_count : ℕ → ℕ
row_count bound = labels_from bound + LABEL_ROWS

-- the place of a phase at an id among the rows of labels
abbrev pub label_place : ℕ → ℕ → ℕ
label_place p s = p * STATES + s

-- the row of a phase at an id
abbrev pub label_row : ℕ → ℕ → ℕ → ℕ
label_row bound p s = labels_from bound + label_place p s

-- the bit of invariant k in row r
abbrev pub is_on : List (List Bool) → ℕ → ℕ → Bool
is_on table r k = is_set (row_at table r) k

-- the move at each place, for the type x: from phase 0 to 1, from 1 to 0, out of 1, from 1 to 2
abbrev pub is_move : Invariant → ℕ → ℕ → Bool
is_move inv x m =
    if m == 0 then turn inv 0 x == 1 else (if m == 1 then turn inv 1 x == 0
    else (if m == 2 then not (turn inv 1 x == 1) else turn inv 1 x == 2))

-- the types in these invariants are below the bound
abbrev pub AreNamedBelow : ℕ → List Invariant → Type 0
AreNamedBelow bound invs =
    (k : ℕ) (inv : Invariant) → slice_get invs k ≡ Some inv → (inv.a < bound) × (inv.b < bound)

-- the bits of invariant k in the rows that do not depend on the graph; all types from the bound on share the rows of
-- the bound
pub record IsMarked (bound : ℕ) (table : List (List Bool)) (k : ℕ) (inv : Invariant) : Type 0 where
  pub bad : (s : ℕ) → s < STATES → is_on table (bad_row s) k ≡ is_bad inv s
  pub first : (s : ℕ) → s < STATES → is_on table (first_row s) k ≡ (first_phase inv == s)
  pub moves : (x m : ℕ) → x ≤ bound → m < MOVES → is_on table (moves_row x + m) k ≡ is_move inv x m

-- the row is that of a label, or the row of broken invariants
abbrev pub IsFree : ℕ → ℕ → Type 0
IsFree bound r = (labels_from bound ≤ r) ⊎ (r ≡ BROKEN_ROW)

-- the bit is that of an invariant other than k, or in a row that is no move at x
abbrev pub IsApart : ℕ → ℕ → ℕ → ℕ → Type 0
IsApart x k r j = (j ≢ k) ⊎ ((r < moves_row x) ⊎ (moves_row (x + 1) ≤ r))

-- the table has all rows for these invariants, whose types are below the bound
pub record IsTableOf (bound : ℕ) (invs : List Invariant) (table : List (List Bool)) : Type 0 where
  pub limit : bound ≤ LAST_TYPE + 1
  pub named : AreNamedBelow bound invs
  pub shape : HasShape table (row_count bound) (length invs)

-- the bits of each invariant are set as its moves say
abbrev pub AreMarked : ℕ → List Invariant → List (List Bool) → Type 0
AreMarked bound invs table =
    (k : ℕ) (inv : Invariant) → slice_get invs k ≡ Some inv → IsMarked bound table k inv

-- all bits of the table are off
abbrev pub IsAllOff : List (List Bool) → Type 0
IsAllOff table = (r k : ℕ) → is_on table r k ≡ false

-- the flag says whether the invariants are marked; until they are, all bits are off
pub record AreMarkedOnce (marked : Bool) (bound : ℕ) (invs : List Invariant) (table : List (List Bool)) : Type 0 where
  pub after : marked ≡ true → AreMarked bound invs table
  pub before : marked ≡ false → IsAllOff table

-- all bits are off in the rows from this one on, which is a row of labels or the end of all rows
pub record IsBlankFrom (bound used : ℕ) (table : List (List Bool)) : Type 0 where
  pub from : labels_from bound ≤ used
  pub limit : used ≤ row_count bound
  pub blank : (r k : ℕ) → used ≤ r → r < row_count bound → is_on table r k ≡ false
