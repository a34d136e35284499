-- What is kept of the texts of events.
use Rattle.std.specs.Prelude.{ℕ, ◌≡◌, ◌≤◌, ◌+◌, List, length, take, slice_get, slice_range, Option, Some, None, ⊤}
use Rattle.reports.specs.Paths.{step_text}
use Rattle.reports.specs.declared.steps.Kept.{Kept}

-- where a text is kept, the bytes there are the text of the event of its type and of the id, and so are the first bytes
-- of its entry if it is short
abbrev pub IsKept : List (List ℕ) → List ℕ → ℕ → Option Kept → Type 0
IsKept types bytes id None = ⊤
IsKept types bytes id (Some k) =
    (k.start + k.count ≤ length bytes) × (slice_range bytes k.start (k.start + k.count) ≡ step_text types (k.number, id))
    × (k.count ≤ 16 → take k.count k.short ≡ step_text types (k.number, id))

-- so for each id of the table
abbrev pub AreKept : List (List ℕ) → List (Option Kept) → List ℕ → Type 0
AreKept types kept bytes = (id : ℕ) (entry : Option Kept) → slice_get kept id ≡ Some entry → IsKept types bytes id entry
