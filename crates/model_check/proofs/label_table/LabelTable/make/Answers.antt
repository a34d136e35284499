use Rattle.std.proofs.Common.{arith}
use Rattle.model_check.proofs.label_table.LabelTable.make.Goals as goal

pub invariant_of-result : goal.invariant_of-result
invariant_of-result c = omega (arith, c.in_ok-vec.ensures.len)
