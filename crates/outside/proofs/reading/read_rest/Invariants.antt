use Rattle.std.proofs.Common.{◌≡◌, ◌≤◌, ◌+◌, ◌-◌, vec_len}
use Rattle.std.specs.Io.KnownBytes.{Consumes}
use Rattle.outside.specs.Inputs.{Stays}
use Rattle.outside.proofs.reading.read_rest.Given as goal

abbrev pub invariant-loop-buf : goal.invariant-loop-buf
invariant-loop-buf g l = record {
  stays : Stays (g.I.Inputs.state l.initial.inputs) (g.I.Inputs.state l.inputs);
  opens : (g.I.Inputs.state l.inputs).opens ≡ (g.I.Inputs.state l.initial.inputs).opens;
  no_fault : (g.I.Inputs.state l.inputs).faults ≡ (g.I.Inputs.state l.initial.inputs).faults;
  mark : (g.I.Inputs.state l.inputs).mark ≡ (g.I.Inputs.state l.initial.inputs).mark;
  turn : (g.I.Inputs.state l.inputs).followed ≡ (g.I.Inputs.state l.initial.inputs).followed;
  read : Consumes (g.I.Inputs.state l.initial.inputs).rest (g.I.Inputs.state l.inputs).rest l.bytes.items;
  short : vec_len l.bytes ≤ l.limit + 1;
}

abbrev pub decreases-loop-buf : goal.decreases-loop-buf
decreases-loop-buf g l = l.limit + 1 - vec_len l.bytes
