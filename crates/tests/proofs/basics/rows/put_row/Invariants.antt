use Rattle.bit_rows.specs.Tables.{HasShape}
use Rattle.tests.proofs.basics.rows.put_row.Given as goal

abbrev pub invariant-loop-i : goal.invariant-loop-i
invariant-loop-i l = HasShape l.rows 4 l.bits
