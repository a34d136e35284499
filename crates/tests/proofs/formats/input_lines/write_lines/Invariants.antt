use Rattle.std.proofs.Common.{◌≡◌, false}
use Rattle.tests.proofs.formats.input_lines.write_lines.Given as goal

abbrev pub invariant-lines : goal.invariant-lines
invariant-lines l = l.lines.refused ≡ false
