use Rattle.std.proofs.Common.{◌+◌, ◌-◌, length}
use Rattle.limits.specs.declared.TheConstants.{MAX_INPUT_BYTES}
use Rattle.log_reader.proofs.Buffered.{IsSearching}
use Rattle.log_reader.proofs.line_reader.Lines.find_end.Given as goal

abbrev pub invariant-loop-length : goal.invariant-loop-length
invariant-loop-length g l = IsSearching l.initial.self l.self (g.I.Inputs.state l.initial.inputs) (g.I.Inputs.state l.inputs) l.searched

abbrev pub decreases-loop-length : goal.decreases-loop-length
decreases-loop-length g l = MAX_INPUT_BYTES + 1 - length l.self.buffered
