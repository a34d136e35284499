use Rattle.std.proofs.Common.{◌≡◌, ◌-◌}
use Rattle.limits.specs.declared.TheConstants.{MAX_PARTITIONS}
use Rattle.model_check.specs.Rows.{shown}
use Rattle.model_check.specs.Columns.{SameOthers}
use Rattle.model_check.proofs.Together.{ArePutBelow}
use Rattle.model_check.proofs.columns.put_sources.Given as goal

abbrev pub invariant-loop-p : goal.invariant-loop-p
invariant-loop-p l =
    record {
      labels : l.columns.labels.items ≡ l.initial.columns.labels.items;
      put : ArePutBelow l.sources.inv (shown l.graph) l.typ l.initial.columns.labels.items l.initial.columns.sources.items l.columns.sources.items l.k l.from;
      others : SameOthers l.initial.columns.sources.items l.columns.sources.items l.k;
    }

abbrev pub decreases-loop-p : goal.decreases-loop-p
decreases-loop-p l = MAX_PARTITIONS - l.from
