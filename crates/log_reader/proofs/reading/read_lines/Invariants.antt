use Rattle.std.proofs.Common.{◌-◌}
use Rattle.limits.specs.declared.TheConstants.{MAX_INPUT_BYTES}
use Rattle.log_reader.proofs.LineByLine.{IsReading}
use Rattle.log_reader.proofs.reading.read_lines.Given as goal

abbrev pub invariant-lines : goal.invariant-lines
invariant-lines g l =
    IsReading l.number (g.I.Inputs.state l.fn.inputs) (g.I.Inputs.state l.inputs) l.fn.lines l.lines (g.T.TakeLines.seen l.fn.reader) (g.T.TakeLines.seen l.reader)

abbrev pub decreases-lines : goal.decreases-lines
decreases-lines g l = MAX_INPUT_BYTES - l.lines.taken
