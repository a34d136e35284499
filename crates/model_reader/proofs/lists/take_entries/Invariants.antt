use Rattle.std.proofs.Common.{◌≡◌, ◌++◌, length}
use Rattle.model_reader.proofs.Listing.{texts_before}
use Rattle.model_reader.proofs.lists.take_entries.Given as goal

abbrev pub invariant-entries : goal.invariant-entries
invariant-entries g l = l.fn.rest ≡ texts_before g.T.Spelled.data_of l.entries.items ++ l.rest

abbrev pub decreases-entries : goal.decreases-entries
decreases-entries g l = length l.rest
