use Rattle.std.proofs.Common.{◌≡◌, ℕ, ◌+◌, ◌<◌, slice_get, Some}
use Rattle.key_table.specs.Placed.{slot_of, IsFullBefore}
use Rattle.key_table.proofs.table.finding.find.Given as goal

abbrev pub invariant-loop-i : goal.invariant-loop-i
invariant-loop-i l =
    (k : ℕ) → k < l.i → IsFullBefore l.slots l.home k → (place : ℕ) → slice_get l.slots (l.home + k) ≡ Some (slot_of l.key place) → slice_get l.keys place ≡ Some l.key → ⊥
