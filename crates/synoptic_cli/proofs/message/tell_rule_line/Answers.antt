use Rattle.std.proofs.Common.{append-nil}
use Rattle.synoptic_cli.proofs.message.tell_rule_line.Goals as goal

pub returns : goal.returns
returns g c = rw (← c.format.ensures.text) (rw (← append-nil c.args.what.now) c.put.ensures)
