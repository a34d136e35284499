-- Inputs and a sink in memory: what contracts see of them, and what each call gives exactly.
use Rattle.std.specs.Prelude.{ℕ, ◌≡◌, ◌⊎◌, ◌-◌, ◌<◌, min, List, [], ◌++◌, length, take, drop, get_or}
use Rattle.std.specs.Prelude.{true, Option, Some, None, Result, Ok, Err}
use Rattle.outside.specs.declared.OpenError.{OpenError}
use Rattle.outside.specs.declared.OpenError.TheVariants.{Missing, Failed}
use Rattle.outside.specs.Counts.{raised, next_call, FailsNext}
use Rattle.outside.specs.Inputs.{InputState, Files, bytes_of}
use Rattle.outside.specs.Sinks.{SinkState}

-- what contracts see of inputs in memory
pub record StoredInputs : Type 0 where
  -- the files, in their order
  pub files : Files
  -- the bytes left in the open input; none if nothing is open
  pub rest : List ℕ
  -- the most bytes that a read gives
  pub piece : ℕ
  -- the numbers of the calls that fail
  pub failing : List ℕ
  -- how many calls of open and read were made
  pub calls : ℕ
  -- how many calls of open were answered by Ok
  pub opens : ℕ
  -- how many calls failed
  pub faults : ℕ
  -- how many files, in their order, were opened in turn, each but the last read to its end; None once another was opened
  pub followed : Option ℕ

-- inputs over these files before the first call: nothing is open
abbrev pub unused_inputs : Files → ℕ → List ℕ → StoredInputs
unused_inputs files piece failing =
    record {
      files = files;
      rest = [];
      piece = piece;
      failing = failing;
      calls = 0;
      opens = 0;
      faults = 0;
      followed = Some 0;
    }

-- the bytes of the file at a place from this one on; empty without a place
abbrev pub rest_of : Files → Option ℕ → ℕ → List ℕ
rest_of files None at = []
rest_of files (Some place) at = drop at (get_or files place ([], [])).1

-- the contents of inputs in memory are known, and each name may fail
abbrev pub input_state : StoredInputs → InputState
input_state s = record {
  files = Some s.files;
  rest = Some s.rest;
  opens = s.opens;
  faults = s.faults;
  may_fail = λ _. true;
  mark = true;
  followed = s.followed;
}

-- after one more call, with these bytes left and this count of faults
abbrev pub after_input : StoredInputs → List ℕ → ℕ → StoredInputs
after_input old rest faults =
    record old { rest = rest; calls = next_call old.calls; faults = faults }

-- what `open(name)` answers, and the state after it, except how many files were opened in turn
abbrev pub OpensStored
    : {T : Type 0} → StoredInputs → List ℕ → Result T OpenError → StoredInputs → Type 0
OpensStored old name (Ok x) new =
    ¬ FailsNext old.failing old.calls × (bytes_of old.files name ≡ Some new.rest)
    × (new ≡ record (after_input old new.rest old.faults) { opens = next_call old.opens; followed = new.followed })
OpensStored old name (Err Missing) new =
    ¬ FailsNext old.failing old.calls × (bytes_of old.files name ≡ None)
    × (new ≡ record (after_input old [] old.faults) { followed = new.followed })
OpensStored old name (Err Failed) new =
    FailsNext old.failing old.calls × (new ≡ record (after_input old [] (raised old.faults)) { followed = new.followed })

-- how many bytes a read into this much room gives
abbrev pub read_count : StoredInputs → ℕ → ℕ
read_count s room = min room (min s.piece (length s.rest))

-- what `read(buf)` answers, and the buffer and the state after it
abbrev pub ReadsStored
    : {E : Type 0} → StoredInputs → List ℕ → Result ℕ E → List ℕ → StoredInputs → Type 0
ReadsStored old before (Ok n) buf new =
    ¬ FailsNext old.failing old.calls × (n ≡ read_count old (length before))
    × (buf ≡ take n old.rest ++ drop n before)
    × (new ≡ after_input old (drop n old.rest) old.faults)
ReadsStored old before (Err e) buf new =
    FailsNext old.failing old.calls × (buf ≡ before)
    × (new ≡ after_input old old.rest (raised old.faults))

-- what contracts see of a sink in memory
pub record StoredSink : Type 0 where
  -- the bytes written
  pub bytes : List ℕ
  -- the most bytes that it takes in all
  pub room : ℕ
  -- the most bytes that a write takes
  pub piece : ℕ
  -- the numbers of the calls that fail
  pub failing : List ℕ
  -- how many writes were tried
  pub calls : ℕ
  -- how many writes failed
  pub faults : ℕ

-- an empty sink with this much room before the first call
abbrev pub unused_sink : ℕ → ℕ → List ℕ → StoredSink
unused_sink room piece failing =
    record { bytes = []; room = room; piece = piece; failing = failing; calls = 0; faults = 0 }

-- the bytes of a sink in memory are known
abbrev pub sink_state : StoredSink → SinkState
sink_state s = record { written = Some s.bytes; faults = s.faults }

-- how many bytes still fit
abbrev pub room_left : StoredSink → ℕ
room_left s = s.room - length s.bytes

-- after one more call, with these bytes and this count of faults
abbrev pub after_write : StoredSink → List ℕ → ℕ → StoredSink
after_write old bytes faults =
    record old { bytes = bytes; calls = next_call old.calls; faults = faults }

-- the next write of this piece fails
abbrev pub RefusesNext : StoredSink → List ℕ → Type 0
RefusesNext s piece = FailsNext s.failing s.calls ⊎ ((room_left s ≡ 0) × (0 < length piece))

-- how many bytes a write of this many bytes takes
abbrev pub write_count : StoredSink → ℕ → ℕ
write_count s given = min given (min s.piece (room_left s))

-- what `write(piece)` answers, and the state after it
abbrev pub WritesStored : {E : Type 0} → StoredSink → List ℕ → Result ℕ E → StoredSink → Type 0
WritesStored old piece (Ok n) new =
    ¬ RefusesNext old piece × (n ≡ write_count old (length piece))
    × (new ≡ after_write old (old.bytes ++ take n piece) old.faults)
WritesStored old piece (Err e) new =
    RefusesNext old piece × (new ≡ after_write old old.bytes (raised old.faults))
