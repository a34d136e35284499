use Rattle.std.proofs.Common.{◌≡◌}
use Rattle.model_check.specs.Rows.{shown}
use Rattle.model_check.specs.Verdicts.{inner_words_of, HasPathFor}
use Rattle.model_check.proofs.Failing.{HoldBelow}
use Rattle.model_check.proofs.acceptance.first_refused.Given as goal

abbrev pub invariant-loop-t : goal.invariant-loop-t
invariant-loop-t l =
    record {
      stays : shown l.graph ≡ shown l.fn.graph;
      held : HoldBelow (HasPathFor (shown l.fn.graph)) (inner_words_of l.traces) l.t;
    }
