use Rattle.std.proofs.Common.{◌≤◌, ◌-◌, length}
use Rattle.model_check.specs.Columns.{AreLabelledBefore}
use Rattle.model_check.proofs.columns.count_labelled.Given as goal

abbrev pub invariant-loop-count : goal.invariant-loop-count
invariant-loop-count l =
    record {
      within : l.count ≤ length l.model.invariants;
      labelled : AreLabelledBefore l.model l.count;
    }

abbrev pub decreases-loop-count : goal.decreases-loop-count
decreases-loop-count l = length l.model.invariants - l.count
