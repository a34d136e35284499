use Rattle.std.proofs.Common.{◌≡◌, ℕ, ◌+◌, ◌-◌, get_or, length}
use Rattle.events_cli.proofs.plain.put_latest.Given as goal

abbrev pub invariant-room : goal.invariant-room
invariant-room l = (k : ℕ) → get_or l.latest.items k 0 ≡ get_or l.initial.latest.items k 0

abbrev pub decreases-room : goal.decreases-room
decreases-room l = l.place + 1 - length l.latest.items
