use Rattle.std.proofs.Common.{◌≡◌, ◌<◌, ℕ, length, get_or}
use Rattle.model_check.specs.States.{IsSource}
use Rattle.model_check.proofs.states.source_of_each.Given as goal

abbrev pub invariant-loop-set : goal.invariant-loop-set
invariant-loop-set l =
    record {
      count : length l.sources ≡ 8;
      each : (k : ℕ) → k < l.set → IsSource l.inv l.typ k (get_or l.sources k 0);
    }
