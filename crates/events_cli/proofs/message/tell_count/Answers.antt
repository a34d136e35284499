use Rattle.std.proofs.Common.{List, ℕ, ◌++◌, subst}
use Rattle.std.specs.Prelude.{codes}
use Rattle.synoptic_cli.specs.Messages.{Tells}
use Rattle.events_cli.proofs.message.tell_count.Goals as goal

pub returns : goal.returns
returns g c =
    subst (λ (d : List ℕ). Tells (codes "synoptic: " ++ d ++ codes " undecided\n") (g.E.ErrorStream.heard c.args.err.now) (g.E.ErrorStream.heard c.put.new.self)) c.format.ensures.text c.put.ensures
