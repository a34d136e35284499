use Rattle.model_check.proofs.Together.{AreLaidUpTo}
use Rattle.model_check.proofs.columns.lay_columns.Given as goal

abbrev pub invariant-loop-k : goal.invariant-loop-k
invariant-loop-k l = AreLaidUpTo l.model l.columns.labels.items l.columns.sources.items l.from l.k
