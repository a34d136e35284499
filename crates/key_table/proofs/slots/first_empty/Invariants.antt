use Rattle.std.proofs.Common.{◌≡◌, ℕ, ◌+◌, ◌<◌, false}
use Rattle.key_table.specs.Placed.{is_empty_at}
use Rattle.key_table.proofs.slots.first_empty.Given as goal

abbrev pub invariant-loop-i : goal.invariant-loop-i
invariant-loop-i l = (k : ℕ) → k < l.i → is_empty_at l.slots (l.home + k) ≡ false
