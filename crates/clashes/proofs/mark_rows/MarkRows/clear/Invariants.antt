use Rattle.std.proofs.Common.{◌≡◌}
use Rattle.clashes.specs.Changes.{IsBlankBelow}
use Rattle.clashes.proofs.mark_rows.MarkRows.clear.Given as goal

abbrev pub invariant-loop-p : goal.invariant-loop-p
invariant-loop-p l = (l.self.invs ≡ l.initial.self.invs) × IsBlankBelow l.self l.p
