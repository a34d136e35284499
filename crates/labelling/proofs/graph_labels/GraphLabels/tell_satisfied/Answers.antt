use Rattle.std.proofs.Common.{List, ap, sym, subst}
use Rattle.invariants.specs.declared.Invariant.{Invariant}
use Rattle.labelling.specs.Labelled.{Labelling, AreLabelsOf, SaysSatisfied, labelling_in, no_marks}
use Rattle.labelling.proofs.Telling.{told_satisfied}
use Rattle.labelling.proofs.graph_labels.GraphLabels.tell_satisfied.Goals as goal

pub returns : goal.returns
returns c g labels =
    let phase_rows = c.self.inside.phase_rows in
    let at : AreLabelsOf (labelling_in phase_rows.bound phase_rows.invs.items phase_rows.rows no_marks) g = subst (λ (x : Labelling). AreLabelsOf x g) (sym c.self.view_is) labels in
    subst (λ (invs : List Invariant). SaysSatisfied g invs c.tell_unnoted.new.flags) (ap (λ (x : Labelling). x.invs) c.self.view_is)
    (told_satisfied phase_rows.bound g phase_rows.invs.items phase_rows.rows no_marks at c.self.invariant c.tell_unnoted.new.flags c.tell_unnoted.ensures)
