use Rattle.std.proofs.Common.{◌≡◌, All, length, replicate, true}
use Rattle.closure_miner.proofs.between.Between.make.Given as goal

abbrev pub invariant-loop-i : goal.invariant-loop-i
invariant-loop-i l = record {
  count : length l.rows.items ≡ l._i;
  each : All (λ row. row.items ≡ replicate l.types true) l.rows.items;
}
