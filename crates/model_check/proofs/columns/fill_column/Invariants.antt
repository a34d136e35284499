use Rattle.std.proofs.Common.{drop, map}
use Rattle.invariants.specs.Labels.{number_of}
use Rattle.model_check.specs.Columns.{SameOthers}
use Rattle.model_check.proofs.Together.{IsFilledUpTo}
use Rattle.model_check.proofs.columns.fill_column.Given as goal

abbrev pub invariant-loop-i : goal.invariant-loop-i
invariant-loop-i l =
    record {
      filled : IsFilledUpTo l.partitions (drop l.i l.partitions) (map number_of l.given) (map number_of (drop l.i l.given)) l.columns.labels.items l.k;
      others : SameOthers l.initial.columns.labels.items l.columns.labels.items l.k;
    }
