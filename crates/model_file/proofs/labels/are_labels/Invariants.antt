use Rattle.std.proofs.Common.{◌<◌, ℕ, get_or}
use Rattle.std.specs.Prelude.{◌↔◌, IsTrue}
use Rattle.invariants.specs.Labels.{IsDigit}
use Rattle.model_file.proofs.labels.are_labels.Given as goal

abbrev pub invariant-loop-byte : goal.invariant-loop-byte
invariant-loop-byte l = IsTrue l.all ↔ ((k d : ℕ) → k < l.byte-index → IsDigit (get_or l.bytes k d))
