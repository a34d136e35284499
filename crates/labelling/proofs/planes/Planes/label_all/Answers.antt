use Rattle.std.proofs.Common.{◌∙◌, List, length, ap, sym, arith}
use Rattle.invariants.specs.declared.Invariant.{Invariant}
use Rattle.partition_graph.specs.Seen.{seen}
use Rattle.labelling.specs.Labelled.{Labelling}
use Rattle.labelling.proofs.Telling.{exact_labels}
use Rattle.labelling.proofs.planes.Planes.label_all.Goals as goal

pub invariant_of-self : goal.invariant_of-self
invariant_of-self g c = (
  c.label.ensures.noted,
  c.self.invariant.1 ∙ sym c.label.ensures.same,
  omega (arith, c.self.invariant.2, ap (λ (invs : List Invariant). length invs) c.label.ensures.same),
)

pub returns : goal.returns
returns g c = record {
  labels = exact_labels c.label.new.phase_rows.bound (seen c.args.view.now) c.label.new.phase_rows.invs.items c.label.new.phase_rows.rows c.self.inside.clashes c.label.ensures.exact;
  same = c.label.ensures.same ∙ ap (λ (x : Labelling). x.invs) c.self.view_is;
  clashes = ap (λ (x : Labelling). x.clashes) c.self.view_is;
  few = omega (arith, c.self.invariant.2, ap (λ (invs : List Invariant). length invs) c.label.ensures.same);
  counted = c.tick.ensures;
}
