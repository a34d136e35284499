use Rattle.std.proofs.Common.{◌≡◌, ◌<◌, ◌≤◌, ◌+◌, ◌*◌, ℕ, length, get_or}
use Rattle.labelling.specs.Labelled.{SaysSwapped}
use Rattle.infer_core.specs.declared.labels.TheConstants.{AHEAD}
use Rattle.infer_core.proofs.labels.swapped_at.Given as goal

abbrev pub invariant-loop-b : goal.invariant-loop-b
invariant-loop-b l =
    record {
      size : length l.swapped ≡ AHEAD;
      told : (i : ℕ) → i < l.b → l.block * AHEAD + i ≤ l.last → SaysSwapped l.graph_labels.invs (l.block * AHEAD + i) (get_or l.swapped i 0);
    }
