use Rattle.std.proofs.Common.{◌≡◌, ◌<◌, ◌-◌, ◌%◌, ℕ, false, length}
use Rattle.clashes.specs.Marks.{has_clash}
use Rattle.clashes.proofs.mark_rows.MarkRows.first_clash.Given as goal

abbrev pub invariant-loop-first : goal.invariant-loop-first
invariant-loop-first l =
    record {
      whole : l.first % 64 ≡ 0;
      none : (k : ℕ) → k < l.first → has_clash l.self k l.p l.q ≡ false;
    }

abbrev pub decreases-loop-first : goal.decreases-loop-first
decreases-loop-first l = length l.self.invs - l.first
