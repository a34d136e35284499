use Rattle.std.proofs.Common.{◌-◌}
use Rattle.limits.specs.declared.TheConstants.{MAX_INPUT_BYTES}
use Rattle.log_reader.specs.Files.{IsBetween}
use Rattle.log_reader.specs.Views.{names_in}
use Rattle.log_reader.proofs.InputByInput.{IsUpTo}
use Rattle.log_reader.proofs.reading.read_inputs.Given as goal

abbrev pub invariant-loop-number : goal.invariant-loop-number
invariant-loop-number g l = record {
  inputs : IsUpTo (g.T.TakeLines.seen l.fn.reader).setting (names_in l.names) l.number (g.I.Inputs.state l.fn.inputs) (g.I.Inputs.state l.inputs) (g.T.TakeLines.seen l.reader) (MAX_INPUT_BYTES - l.lines.taken);
  lines : IsBetween l.lines;
}
