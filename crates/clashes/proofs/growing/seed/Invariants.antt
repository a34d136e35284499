use Rattle.std.proofs.Common.{take}
use Rattle.partition_model.specs.Assignments.{G}
use Rattle.clashes.specs.Growing.{IsGrown}
use Rattle.clashes.proofs.Passing.{AreEnteredSoFar}
use Rattle.clashes.proofs.growing.seed.Given as goal

abbrev pub invariant-loop-link : goal.invariant-loop-link
invariant-loop-link l = IsGrown l.fn.mark_rows l.mark_rows (G l.graph.traces) × AreEnteredSoFar (G l.graph.traces) l.mark_rows (take l.link-index l.links)
