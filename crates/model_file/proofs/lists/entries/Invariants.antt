use Rattle.std.proofs.Common.{◌≡◌, ℕ, ◌≤◌, length}
use Rattle.json.specs.Json.{parse_map}
use Rattle.model_file.specs.Entries.{each}
use Rattle.model_file.specs.Lists.{gathered, kept_each}
use Rattle.model_file.specs.Streams.{items_at}
use Rattle.model_file.proofs.Listing.{joined}
use Rattle.model_file.proofs.lists.entries.Given as goal

abbrev pub invariant-items : goal.invariant-items
invariant-items g l =
    (n : ℕ) × (length l.reader ≤ n)
    × (parse_map (kept_each g.B.Bound.over g.T.Entry.read_as) (items_at (length l.initial.reader) l.depth l.initial.reader)
    ≡ parse_map (λ ds. joined g.B.Bound.over (gathered l.found) (each g.T.Entry.read_as ds)) (items_at n l.depth l.reader))
    × (length l.reader ≤ length l.initial.reader)

abbrev pub decreases-items : goal.decreases-items
decreases-items g l = length l.reader
