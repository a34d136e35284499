use Rattle.std.proofs.Common.{[], ◌∷◌}
use Rattle.std.proofs.lemmas.List.{append_assoc}
use Rattle.synoptic_cli.proofs.message.tell_file_fault.Goals as goal

pub returns : goal.returns
returns g c = rw (append_assoc c.args.what.now c.args.which.now (10 ∷ [])) c.put.ensures
