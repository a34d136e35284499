use Rattle.partition_model.specs.Assignments.{G}
use Rattle.clashes.proofs.Joining.{blank_sound}
use Rattle.clashes.proofs.clashes.Clashes.find.Goals as goal

pub returns-clause-marks : goal.returns-clause-marks
returns-clause-marks g c =
    c.grow.ensures.marks c.ids_used.ensures.typed (blank_sound c.clear.new.self (G c.args.graph.now.traces) c.ids_used.result c.ids_used.ensures.within c.ids_used.ensures.two c.clear.ensures.blank)
