use Rattle.std.proofs.Common.{◌≡◌, ◌<◌, ◌≤◌, ◌+◌, ◌*◌, ℕ, [], length, get_or}
use Rattle.labelling.specs.Labelled.{AreStatesAt}
use Rattle.infer_core.specs.declared.labels.TheConstants.{AHEAD}
use Rattle.infer_core.proofs.labels.words_at.Given as goal

abbrev pub invariant-loop-b : goal.invariant-loop-b
invariant-loop-b l =
    record {
      size : length l.words ≡ AHEAD;
      told : (i : ℕ) → i < l.b → l.block * AHEAD + i ≤ l.last → AreStatesAt l.graph_labels (l.block * AHEAD + i) l.p (get_or l.words i []);
    }
