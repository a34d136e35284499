-- The answers of the commands.
use Rattle.std.specs.Prelude.{ℕ, List}
use Rattle.synoptic_cli.specs.declared.answer.Answer.{Answer}
use Rattle.synoptic_cli.specs.declared.status.Status.TheVariants.{Done}

-- the status Done, with this text to write
abbrev pub done : List ℕ → Answer
done text = record { status = Done; text = text }
