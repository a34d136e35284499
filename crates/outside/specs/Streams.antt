-- The process's own streams and the system's files: what contracts see of them, and which calls
-- count a fault.
use Rattle.std.specs.Prelude.{ℕ, ◌≡◌, ◌≢◌, ⊤, true, List, [], Option, Some, None, Result, Ok, Err}
use Rattle.outside.specs.declared.OpenError.{OpenError}
use Rattle.outside.specs.declared.OpenError.TheVariants.{Missing, Failed}
use Rattle.outside.specs.declared.real.Source.{Source}
use Rattle.outside.specs.declared.real.Source.TheVariants.{Nothing, Standard, File}
use Rattle.outside.specs.Counts.{raised, next_call}
use Rattle.outside.specs.Inputs.{InputState}
use Rattle.outside.specs.Sinks.{SinkState}

-- what contracts see of standard input and files
pub record StreamState : Type 0 where
  -- what is open; a file with the bytes that it will give, if they are known
  pub source : Source (Option (List ℕ))
  -- how many inputs were opened
  pub opens : ℕ
  -- the bytes that standard input will give, if they are known
  pub remaining : Option (List ℕ)
  -- how many faults were counted
  pub faults : ℕ

-- standard input with these bytes left, and files, before the first call: nothing is open
abbrev pub unused_streams : Option (List ℕ) → StreamState
unused_streams remaining = record { source = Nothing; opens = 0; remaining = remaining; faults = 0 }

-- an output whose bytes are not known, before the first write
abbrev pub unused_output : SinkState
unused_output = record { written = None; faults = 0 }

-- what is open, with what a file has left
abbrev pub source_of : {F : Type 0} → (F → Option (List ℕ)) → Source F → Source (Option (List ℕ))
source_of remaining Nothing = Nothing
source_of remaining Standard = Standard
source_of remaining (File f) = File (remaining f)

-- what is left in the open input, if it is known; nothing if nothing is open
abbrev pub rest_in : Source (Option (List ℕ)) → Option (List ℕ) → Option (List ℕ)
rest_in Nothing remaining = Some []
rest_in Standard remaining = remaining
rest_in (File rest) remaining = rest

-- no file is known, and each name and each read may fail
abbrev pub stream_state : StreamState → InputState
stream_state s = record {
  files = None;
  rest = rest_in s.source s.remaining;
  opens = s.opens;
  faults = s.faults;
  may_fail = λ _. true;
  mark = true;
  followed = None;
}

-- what a name opens: the empty name standard input, and each other a file
abbrev pub IsSourceOf : List ℕ → Source (Option (List ℕ)) → Type 0
IsSourceOf name Nothing = ⊥
IsSourceOf name Standard = name ≡ []
IsSourceOf name (File rest) = name ≢ []

-- what `open(name)` answers, and the state after it: the empty name always opens
abbrev pub OpensStream
    : {T : Type 0} → StreamState → List ℕ → Result T OpenError → StreamState → Type 0
OpensStream old name (Ok x) new =
    IsSourceOf name new.source
    × (new ≡ record old { source = new.source; opens = next_call old.opens })
OpensStream old name (Err Missing) new = ⊥
OpensStream old name (Err Failed) new =
    (name ≢ []) × (new ≡ record old { source = Nothing; faults = raised old.faults })

-- a file is open
abbrev pub IsFile : Source (Option (List ℕ)) → Type 0
IsFile Nothing = ⊥
IsFile Standard = ⊥
IsFile (File rest) = ⊤

-- a read changes nothing but what is open
abbrev pub MovesOpen : Source (Option (List ℕ)) → StreamState → StreamState → Type 0
MovesOpen Nothing old new = new ≡ old
MovesOpen Standard old new = new ≡ record old { remaining = new.remaining }
MovesOpen (File rest) old new = IsFile new.source × (new ≡ record old { source = new.source })

-- what `read` leaves, besides the bytes: a failure is one fault, and only what is open can fail
abbrev pub ReadsStream : {E : Type 0} → StreamState → Result ℕ E → StreamState → Type 0
ReadsStream old (Ok n) new = MovesOpen old.source old new
ReadsStream old (Err e) new =
    (old.source ≢ Nothing) × MovesOpen old.source (record old { faults = raised old.faults }) new

-- a failed write is one fault
abbrev pub CountsFault : {E : Type 0} → ℕ → Result ℕ E → ℕ → Type 0
CountsFault old (Ok n) new = new ≡ old
CountsFault old (Err e) new = new ≡ raised old
