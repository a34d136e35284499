use Rattle.std.proofs.Common.{◌≡◌, ◌<◌, ℕ, List, get_or}
use Rattle.replay_check.proofs.listing.are_same.Given as goal

abbrev pub invariant-loop-i : goal.invariant-loop-i
invariant-loop-i l = (k : ℕ) (d : List ℕ) → k < l.i → get_or l.these k d ≡ get_or l.those k d
