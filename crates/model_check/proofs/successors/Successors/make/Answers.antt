use Rattle.std.proofs.Common.{◌*◌}
use Rattle.model_check.specs.declared.sets.TheConstants.{ROWS}
use Rattle.model_check.proofs.Stepping.{nothing-known}
use Rattle.model_check.proofs.successors.Successors.make.Goals as goal

pub returns-clause-numbers : goal.returns-clause-numbers
returns-clause-numbers c =
    nothing-known (c.args.types * ROWS) c.in_ok-vec.field-0.items (c.in_ok-vec.ensures.items_if_clones_equal (λ y same. same))
