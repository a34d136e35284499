-- What contracts see of the inputs of a case.
use Rattle.std.specs.Prelude.{ℕ, None, true, if◌then◌else◌}
use Rattle.outside.specs.Inputs.{InputState}
use Rattle.outside.specs.InMemory.{input_state}
use Rattle.tests.specs.declared.runs.inputs.Given.{Given}

-- inputs whose files are not known, and which may fail at each name
abbrev pub untold : ℕ → InputState
untold opens = record {
  files = None;
  rest = None;
  opens = opens;
  faults = 0;
  may_fail = λ _. true;
  mark = true;
  followed = None;
}

-- files in memory are known, and endless inputs are not
abbrev pub state_of : Given → InputState
state_of given = if given.is_endless then untold given.opens else input_state given.files
