use Rattle.std.proofs.Common.{◌<◌, ℕ, get_or}
use Rattle.invariants.specs.declared.records.Edge.{Edge}
use Rattle.model_check.specs.Rows.{shown}
use Rattle.model_check.specs.States.{LeadsWithin}
use Rattle.model_check.proofs.labels.keep_along.Given as goal

abbrev pub invariant-loop-edge : goal.invariant-loop-edge
invariant-loop-edge l = (k : ℕ) (d : Edge) → k < l.edge-index → LeadsWithin l.sources.inv (shown l.graph) l.labels (get_or l.edges k d)
