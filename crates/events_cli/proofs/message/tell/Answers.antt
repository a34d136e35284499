use Rattle.std.proofs.Common.{subst, sym}
use Rattle.std.specs.Option.{option_map}
use Rattle.command_line.specs.Task.{task_held}
use Rattle.synoptic_cli.specs.Messages.{Tells}
use Rattle.events_cli.specs.declared.ending.Ending.{Ending}
use Rattle.events_cli.specs.Messages.{task_message_of}
use Rattle.events_cli.proofs.message.tell.Goals as goal

pub returns-in-WriteFault : goal.returns-in-WriteFault
returns-in-WriteFault g c =
    subst (λ (ending : Ending). Tells (task_message_of (option_map (λ t. task_held t.now) c.args.task) ending) (g.E.ErrorStream.heard c.args.err.now) (g.E.ErrorStream.heard c.tell_text.new.err)) (sym c.in-WriteFault.is) c.tell_text.ensures
