use Rattle.std.proofs.Common.{◌≡◌, ◌≤◌, count_by, take}
use Rattle.std.proofs.Math.Dec.{ltb}
use Rattle.count_miner.proofs.counting.occurring_types.Given as goal

abbrev pub invariant-loop-k : goal.invariant-loop-k
invariant-loop-k l = record {
  few : l.occurring ≤ l.k;
  counted : l.occurring ≡ count_by (λ n. ltb 0 n) (take l.k l.all);
}
