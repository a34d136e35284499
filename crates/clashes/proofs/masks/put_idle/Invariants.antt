use Rattle.bit_rows.specs.Tables.{KeepsShape}
use Rattle.clashes.proofs.Idle.{AreIdleBelow}
use Rattle.clashes.proofs.masks.put_idle.Given as goal

abbrev pub invariant-loop-x : goal.invariant-loop-x
invariant-loop-x l = KeepsShape l.fn.rows l.rows × AreIdleBelow l.rows l.others l.x l.count
