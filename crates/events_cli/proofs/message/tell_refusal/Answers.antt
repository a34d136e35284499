use Rattle.std.proofs.Common.{◌≡◌, List, ℕ, Option, refl, subst, sym}
use Rattle.std.specs.Option.{option_map}
use Rattle.command_line.specs.Task.{Task, task_held}
use Rattle.synoptic_cli.specs.Messages.{Tells, task_message}
use Rattle.synoptic_cli.specs.declared.status.Status.{Status}
use Rattle.synoptic_cli.specs.declared.status.Status.TheVariants.{Usage}
use Rattle.events_cli.specs.Messages.{refusal_message}
use Rattle.events_cli.proofs.message.tell_refusal.Goals as goal

other : (task : Option Task) (status : Status) → (status ≡ Usage → ⊥) → refusal_message task status ≡ task_message task status
other task Usage differs = absurd (differs refl)
other task status differs = refl

pub returns-in-Usage : goal.returns-in-Usage
returns-in-Usage g c =
    subst (λ (status : Status). Tells (refusal_message (option_map (λ t. task_held t.now) c.args.task) status) (g.E.ErrorStream.heard c.args.err.now) (g.E.ErrorStream.heard c.tell_text.new.err)) (sym c.in-Usage.is) c.tell_text.ensures

pub returns-in_default : goal.returns-in_default
returns-in_default g c =
    subst (λ (t : List ℕ). Tells t (g.E.ErrorStream.heard c.args.err.now) (g.E.ErrorStream.heard c.tell.new.err))
    (sym (other (option_map (λ t. task_held t.now) c.args.task) c.args.status c.in_default.not-Usage)) c.tell.ensures
