use Rattle.bit_rows.specs.Tables.{HasShape}
use Rattle.tests.proofs.basics.rows.filled.Given as goal

abbrev pub invariant-loop-r : goal.invariant-loop-r
invariant-loop-r l = HasShape l.rows 4 l.bits
