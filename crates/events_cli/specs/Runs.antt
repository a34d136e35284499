-- Two runs of the program over the same files.
use Rattle.std.specs.Prelude.{ℕ, ◌≡◌, List, Some}
use Rattle.std.specs.Io.KnownBytes.{Appends}
use Rattle.outside.specs.Inputs.{Files}
use Rattle.synoptic_cli.specs.Causes.{World}
use Rattle.events_cli.specs.declared.ending.Ending.{Ending}
use Rattle.events_cli.specs.Causes.{HasCause}
use Rattle.events_cli.specs.Steps.{IsGiven}

-- two runs, each from one state to another, end alike, and both write this text
pub record AreAlike (one other : Ending) (old new before after : World) : Type 0 where
  pub ending : one ≡ other
  pub text : List ℕ
  pub first : Appends old.out.written new.out.written text
  pub second : Appends before.out.written after.out.written text

-- two runs with the same arguments, over the same known files, that both end with an answer, are alike
abbrev pub RunsAreAlike : Type 0
RunsAreAlike =
    (words : List (List ℕ)) (files : Files) (one other : Ending) (old new before after : World)
    → old.inputs.files ≡ Some files → before.inputs.files ≡ Some files → IsGiven one → IsGiven other
    → HasCause one words old new → HasCause other words before after
    → AreAlike one other old new before after
