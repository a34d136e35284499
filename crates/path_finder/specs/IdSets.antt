-- Sets of ids.
use Rattle.std.specs.Prelude.{ℕ, ◌/◌, ◌%◌, ◌==◌, Bool, slice_index}
use Rattle.std.specs.Int.{bit_at}
use Rattle.path_finder.specs.declared.id_set.IdSet.{IdSet}

-- whether the set has the id
abbrev pub has_id : IdSet → ℕ → Bool
has_id s p = bit_at (slice_index s.words (p / 64)) (p % 64) == 1
