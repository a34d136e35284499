use Rattle.std.proofs.Common.{◌≡◌}
use Rattle.tests.proofs.graphs.paths.put_places.Given as goal

abbrev pub invariant-loop-ids : goal.invariant-loop-ids
invariant-loop-ids l = l.stitcher ≡ l.initial.stitcher
