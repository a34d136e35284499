use Rattle.std.proofs.Common.{ap}
use Rattle.labelling.specs.Labelled.{Labelling, labelling_in}
use Rattle.labelling.proofs.Telling.{labels_kept}
use Rattle.labelling.proofs.planes.Planes.join.Goals as goal

pub returns-clause-labels : goal.returns-clause-labels
returns-clause-labels ledger c = λ g h.
    let phase_rows = c.self.inside.phase_rows in
    labels_kept g c.args.self.now (labelling_in phase_rows.bound phase_rows.invs.items phase_rows.rows c.join.new.self)
    (ap (λ (x : Labelling). x.invs) c.self.view_is) (ap (λ (x : Labelling). x.rows) c.self.view_is) h
