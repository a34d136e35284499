-- How a run ends, given the bytes of its inputs, if the files are known and if they are not.
use Rattle.std.specs.Prelude.{ℕ, ◌≡◌, ◌<◌, ◌⊎◌, List, [], ◌∷◌, map, Option, Some, None, ⊤, Result, Ok, Err}
use Rattle.std.specs.Io.KnownBytes.{IsAtEnd}
use Rattle.outside.specs.Inputs.{Files, InputState, bytes_of}
use Rattle.outside.specs.Turns.{OpensInTurn}
use Rattle.log_reader.specs.Inputs.{Opened, SomeContents, told_contents}
use Rattle.command_line.specs.Task.{Task, task_of}
use Rattle.synoptic_cli.specs.declared.answer.Answer.{Answer}
use Rattle.synoptic_cli.specs.declared.status.LimitKind.{LimitKind}
use Rattle.synoptic_cli.specs.declared.status.Status.{Status}
use Rattle.synoptic_cli.specs.declared.status.Status.TheVariants.{Usage, Limit, ReadFault}
use Rattle.synoptic_cli.specs.declared.status.Source.{Source}
use Rattle.synoptic_cli.specs.Task.{Stage, stage_names, input_count, stages_of}
use Rattle.synoptic_cli.specs.Stages.{SoFar, Stop, Filled, at_start, reads, stop_after}
use Rattle.synoptic_cli.specs.Commands.{Answers}

-- the stages with the bytes of their files, each up to the first missing file
abbrev pub told_stages : Files → List Stage → List Filled
told_stages files stages = map (λ stage. (stage, told_contents files (stage_names stage))) stages

-- P holds of the bytes of the stages' inputs if files are known; else, for each stage, of some bytes for a prefix of
-- its inputs
abbrev pub SomeBytes : Option Files → List Stage → (List Filled → Type 0) → Type 0
SomeBytes files [] P = P []
SomeBytes files (stage ∷ stages) P =
    SomeContents files (stage_names stage)
    (λ contents. SomeBytes files stages (λ rest. P ((stage, contents) ∷ rest)))

-- how a run ends after this reading: with the stop of the reading; or with the command's answer, or at a limit with a
-- stop after all inputs
abbrev pub EndsAfter : Task → Result SoFar Stop → Result Answer Stop → Type 0
EndsAfter task (Err stop) (Err last) = last ≡ stop
EndsAfter task (Err stop) (Ok a) = ⊥
EndsAfter task (Ok so_far) (Ok a) = Answers task so_far.material (Ok a)
EndsAfter task (Ok so_far) (Err last) =
    (kind : LimitKind) × Answers task so_far.material (Err kind)
    × (last ≡ stop_after (input_count (stages_of task)) (Limit kind))

-- how a run of the task ends over these bytes: with an answer or with a stop
abbrev pub EndsOver : Task → List Filled → Result Answer Stop → Type 0
EndsOver task filled end = EndsAfter task (reads at_start filled) end

-- the status of an ending
abbrev pub end_status : Result Answer Stop → Status
end_status (Ok a) = a.status
end_status (Err stop) = stop.status

-- a run of the task over these files ends with this status
pub record EndsTold (files : Files) (task : Task) (status : Status) : Type 0 where
  pub end : Result Answer Stop
  pub ends : EndsOver task (told_stages files (stages_of task)) end
  pub is : end_status end ≡ status

-- the status over these files of what the arguments ask for; without a task it is Usage
abbrev pub HasStatus : Option Task → Files → Status → Type 0
HasStatus None files status = status ≡ Usage
HasStatus (Some task) files status = EndsTold files task status

-- the status of these arguments over these files, if nothing outside fails, memory suffices, and no pattern is refused
-- for its size or depth
abbrev pub IsStatusOf : List (List ℕ) → Files → Status → Type 0
IsStatusOf words files status = HasStatus (task_of words) files status

-- a run over known files has only one ending
abbrev pub EndsAreOne : Type 0
EndsAreOne =
    (task : Task) (files : Files) (a b : Result Answer Stop)
    → EndsOver task (told_stages files (stages_of task)) a
    → EndsOver task (told_stages files (stages_of task)) b → a ≡ b

-- the arguments and the files have only one status
abbrev pub StatusesAreOne : Type 0
StatusesAreOne =
    (words : List (List ℕ)) (files : Files) (a b : Status) → IsStatusOf words files a
    → IsStatusOf words files b → a ≡ b

-- if files are known, these are the bytes of the named one
abbrev pub IsTold : Option Files → List ℕ → List ℕ → Type 0
IsTold None name bytes = ⊤
IsTold (Some files) name bytes = bytes_of files name ≡ Some bytes

-- files are known, nothing before this input is refused, and it is the first one missing
abbrev pub IsFirstLacking : Option Files → Task → Source → Type 0
IsFirstLacking None task source = ⊥
IsFirstLacking (Some files) task source =
    (count : ℕ)
    × (reads at_start (told_stages files (stages_of task)) ≡ Err (stop_after count (ReadFault source)))

-- this many inputs were opened without a fault; if there are none, nothing was touched
abbrev pub OpenedAll : ℕ → InputState → InputState → Type 0
OpenedAll count old new = ((0 < count) × Opened count old new) ⊎ ((count ≡ 0) × (new ≡ old))

-- this many inputs were opened without a fault, and the last was read to its end; if there are none, nothing was
-- touched
abbrev pub ReadAll : ℕ → InputState → InputState → Type 0
ReadAll count old new = ((0 < count) × Opened count old new × IsAtEnd new.rest) ⊎ ((count ≡ 0) × (new ≡ old))

-- the inputs with these names, and no others, were opened in turn, each but the last read to its end; if there are
-- none, nothing was touched
abbrev pub OpensAll : List (List ℕ) → InputState → InputState → Type 0
OpensAll [] old new = new ≡ old
OpensAll (name ∷ names) old new = OpensInTurn (name ∷ names) old new
