use Rattle.std.proofs.Common.{◌<◌, ℕ, get_or}
use Rattle.invariants.specs.declared.records.Edge.{Edge}
use Rattle.model_check.specs.Columns.{AreWithin}
use Rattle.model_check.specs.declared.columns.TheConstants.{TOGETHER}
use Rattle.model_check.proofs.columns.keep_all_along.Given as goal

abbrev pub invariant-loop-edge : goal.invariant-loop-edge
invariant-loop-edge l =
    (j : ℕ) (d : Edge) → j < l.edge-index
    → (let e : Edge = get_or l.edges j d in AreWithin l.columns.labels.items l.columns.sources.items TOGETHER e.from e.to)
