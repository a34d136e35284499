-- An input that is read to its end, or to one byte past a limit.
use Rattle.std.specs.Prelude.{ℕ, ◌≡◌, ◌⊎◌, ◌≤◌, ◌+◌, List, [], ◌∷◌, length, take, drop, IsTrue, ⊤}
use Rattle.std.specs.Prelude.{Option, Some, None, Result, Ok, Err, Vec}
use Rattle.std.specs.Io.KnownBytes.{Consumes, IsAtEnd}
use Rattle.std.specs.declared.alloc.Global.{Global}
use Rattle.outside.specs.declared.reading.InputError.{InputError}
use Rattle.outside.specs.declared.reading.InputError.TheVariants.{Missing, Fault, Memory}
use Rattle.outside.specs.Counts.{Rose, next_call}
use Rattle.outside.specs.Inputs.{Files, InputState, Lacks, bytes_of}
use Rattle.outside.specs.Turns.{OpensInTurn}

-- if files are known, the name is among them, and P holds of its bytes
abbrev pub IfTold : Option Files → List ℕ → (List ℕ → Type 0) → Type 0
IfTold None name P = ⊤
IfTold (Some files) name P = (content : List ℕ) × (bytes_of files name ≡ Some content) × P content

-- the named input was opened once and read, with no fault, and is open;
-- these are its bytes, up to one past the limit
pub record ReadsInput (old new : InputState) (name : List ℕ) (limit : ℕ) (bytes : List ℕ)
    : Type 0 where
  pub opens : new.opens ≡ next_call old.opens
  pub mark : new.mark ≡ old.may_fail name
  pub faults : new.faults ≡ old.faults
  pub short : length bytes ≤ limit + 1
  pub told : IfTold old.files name
      (λ content. (bytes ≡ take (limit + 1) content) × (new.rest ≡ Some (drop (limit + 1) content)))
  pub at_end : length bytes ≤ limit → IsAtEnd new.rest
  pub turn : OpensInTurn (name ∷ []) old new

-- no input was opened, and nothing is open: what is left to read is known to be empty
pub record OpensNone (old new : InputState) : Type 0 where
  pub closed : new.rest ≡ Some []
  pub opens : new.opens ≡ old.opens

-- a prefix of what was left is gone, with at most one byte past the limit
abbrev pub LosesFront : Option (List ℕ) → Option (List ℕ) → ℕ → Type 0
LosesFront old new limit = (front : List ℕ) × (length front ≤ limit + 1) × Consumes old new front

-- the named input was opened once and is open; what is left are its bytes after some prefix
pub record OpensNamed (old new : InputState) (name : List ℕ) (limit : ℕ) : Type 0 where
  pub opens : new.opens ≡ next_call old.opens
  pub mark : new.mark ≡ old.may_fail name
  pub left : IfTold old.files name (λ content. LosesFront (Some content) new.rest limit)

-- what `read_input(name, limit)` leaves at each answer: only at Fault was a fault counted, and then
-- the opening of the named input failed, or a read of it
abbrev pub InputGives
    : InputState → List ℕ → ℕ → Result (Vec ℕ Global) InputError → InputState → Type 0
InputGives old name limit (Ok bytes) new = ReadsInput old new name limit bytes.items
InputGives old name limit (Err Missing) new =
    Lacks old.files name × OpensNone old new × (new.faults ≡ old.faults)
InputGives old name limit (Err Fault) new =
    Rose old.faults new.faults × IsTrue (old.may_fail name)
    × (OpensNone old new ⊎ OpensNamed old new name limit)
InputGives old name limit (Err Memory) new =
    OpensNamed old new name limit × (new.faults ≡ old.faults)
