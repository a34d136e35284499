use Rattle.synoptic_cli.proofs.message.tell_read_fault.Goals as goal

pub returns : goal.returns
returns g c = rw (← c.shown_source.ensures) c.put.ensures
