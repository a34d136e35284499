use Rattle.model_check.specs.Columns.{HaveLabels}
use Rattle.model_check.proofs.columns.fill_columns.Given as goal

abbrev pub invariant-loop-k : goal.invariant-loop-k
invariant-loop-k l = HaveLabels l.model l.columns.labels.items l.from l.k
