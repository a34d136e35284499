-- Laws on what bytes are read as.
use Rattle.std.specs.Prelude.{ℕ, ◌≡◌, ◌≢◌, List, [], Result, Ok, Err}
use Rattle.invariants.specs.declared.Kinds.TheVariants.{Three}
use Rattle.invariants.specs.declared.records.Model.{Model}
use Rattle.model_shape.specs.Shapes.{IsWellShaped}
use Rattle.model_file.specs.Reading.{Gives, reads}
use Rattle.model_file.specs.Tree.{file_text}
use Rattle.model_file.specs.declared.refusal.FileError.{FileError}
use Rattle.model_file.specs.declared.refusal.FileError.TheVariants.{Memory}

-- no bytes are read as a model that is not well shaped
abbrev pub UnshapedAreNotRead : Type 0
UnshapedAreNotRead = (bytes : List ℕ) (m : Model) → (IsWellShaped m → ⊥) → reads bytes ≢ Ok m

-- a model with nothing in its lists: it lacks the partitions of INITIAL and TERMINAL
abbrev pub empty_model : Model
empty_model = record {
  types = [];
  kinds = Three;
  partitions = [];
  edges = [];
  invariants = [];
  splits = [];
  merges = [];
  blocks = [];
}

-- the text that would be written for the empty model is not read as that model
abbrev pub EmptyIsNotRead : Type 0
EmptyIsNotRead = reads (file_text empty_model) ≢ Ok empty_model

-- two answers to the same bytes are the same, unless one of them is out of memory
abbrev pub AnswersAreOne : Type 0
AnswersAreOne =
    (bytes : List ℕ) (a b : Result Model FileError) → a ≢ Err Memory → b ≢ Err Memory
    → Gives a (reads bytes) → Gives b (reads bytes) → a ≡ b
