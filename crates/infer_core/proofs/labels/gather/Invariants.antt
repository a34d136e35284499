use Rattle.std.proofs.Common.{◌≡◌, ◌<◌, ◌≤◌, ◌+◌, ◌*◌, ℕ, [], Some, length, slice_get, get_or}
use Rattle.invariants.specs.declared.records.Partition.{Partition}
use Rattle.labelling.specs.Labelled.{AreStatesAt}
use Rattle.infer_core.specs.declared.labels.TheConstants.{AHEAD}
use Rattle.infer_core.proofs.labels.gather.Given as goal

abbrev pub invariant-loop-j : goal.invariant-loop-j
invariant-loop-j l =
    record {
      size : length l.words ≡ length l.partitions;
      states : (i b : ℕ) (x : Partition) → i < l.j → slice_get l.partitions i ≡ Some x → b < AHEAD → l.block * AHEAD + b ≤ l.last
          → AreStatesAt l.graph_labels (l.block * AHEAD + b) x.id (get_or (get_or l.words i []) b []);
    }
