use Rattle.std.proofs.Common.{◌∙◌, sym}
use Rattle.command_line.specs.Task.{task_held}
use Rattle.events_cli.proofs.Answered.{fits-is}
use Rattle.events_cli.proofs.show.show.Goals as goal

pub show_undecided-requires-clause-skips : goal.show_undecided-requires-clause-skips
show_undecided-requires-clause-skips g c = (fits-is c.args.mode (task_held c.args.task.now) c.requires.fits).skips (sym c.lists_undecided.ensures ∙ c.if-lists_undecided.true)
