use Rattle.std.proofs.Common.{List, ap, sym, subst}
use Rattle.invariants.specs.declared.Invariant.{Invariant}
use Rattle.partition_model.specs.Graphs.{Graph}
use Rattle.partition_graph.specs.Seen.{seen}
use Rattle.labelling.specs.Labelled.{Labelling, AreLabelsOf, SaysSatisfied, labelling_in}
use Rattle.labelling.proofs.Telling.{told_satisfied}
use Rattle.labelling.proofs.planes.Planes.tell_satisfied.Goals as goal

pub returns-clause-told : goal.returns-clause-told
returns-clause-told ledger c =
    let phase_rows = c.self.inside.phase_rows in
    let g : Graph = seen c.args.view.now in
    let labels : AreLabelsOf (labelling_in phase_rows.bound phase_rows.invs.items phase_rows.rows c.self.inside.clashes) g =
    subst (λ (x : Labelling). AreLabelsOf x g) (sym c.self.view_is) c.label_all.ensures.labels in
    subst (λ (invs : List Invariant). SaysSatisfied g invs c.tell_unnoted.new.flags) (ap (λ (x : Labelling). x.invs) c.self.view_is)
    (told_satisfied phase_rows.bound g phase_rows.invs.items phase_rows.rows c.self.inside.clashes labels c.self.invariant.0 c.tell_unnoted.new.flags c.tell_unnoted.ensures)
