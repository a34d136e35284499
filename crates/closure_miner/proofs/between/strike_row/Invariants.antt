use Rattle.std.proofs.Common.{◌≡◌, ℕ, ◌<◌, ◌≤◌, ◌&&◌, false, get_or}
use Rattle.std.proofs.Math.Dec.{ltb}
use Rattle.closure_miner.proofs.between.strike_row.Given as goal

abbrev pub invariant-loop-b : goal.invariant-loop-b
invariant-loop-b l = record {
  before : (k : ℕ) → k < l.b → get_or l.row k false ≡ (get_or l.initial.row k false && ltb l.limit (get_or l.next k 0));
  after : (k : ℕ) → l.b ≤ k → get_or l.row k false ≡ get_or l.initial.row k false;
  none : l.left ≡ false → (k : ℕ) → k < l.b → get_or l.row k false ≡ false;
}
