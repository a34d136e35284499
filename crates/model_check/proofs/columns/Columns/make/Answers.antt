use Rattle.std.proofs.Common.{arith}
use Rattle.model_check.proofs.columns.Columns.make.Goals as goal

pub invariant_of-result : goal.invariant_of-result
invariant_of-result c = record {
  labels_size = omega (arith, c.in_ok-vec.ensures.len);
  sources_size = omega (arith, c.in_ok-vec-2.ensures.len);
}
