use Rattle.std.proofs.Common.{ℕ, Option, Some, None, MatchOption, subst, sym}
use Rattle.partition_model.specs.Refinement.{SatisfiesAll, IsFirstBroken}
use Rattle.labelling.specs.Labelled.{Labelling, AreLabelsOf}
use Rattle.labelling.proofs.Telling.{none_broken, first_broken}
use Rattle.labelling.proofs.planes.Planes.first_bad.Goals as goal

by_cases : (o : Option ℕ) (P R : Type 0) (Q S : ℕ → Type 0) → (P → R) → ((k : ℕ) → Q k → S k) → MatchOption o P Q → MatchOption o R S
by_cases None P R Q S f g h = f h
by_cases (Some k) P R Q S f g h = g k h

pub returns : goal.returns
returns c = λ g labels.
    let phase_rows = c.self.inside.phase_rows in
    let at : AreLabelsOf _ g = subst (λ (x : Labelling). AreLabelsOf x g) (sym c.self.view_is) labels in
    subst (λ (x : Labelling). MatchOption c.first_noted.result (SatisfiesAll g x.invs) (λ k. IsFirstBroken g x.invs k)) c.self.view_is
    (by_cases c.first_noted.result _ (SatisfiesAll g phase_rows.invs.items) _ (λ k. IsFirstBroken g phase_rows.invs.items k)
    (λ off. none_broken phase_rows.bound g phase_rows.invs.items phase_rows.rows c.self.inside.clashes at c.self.invariant.0 off)
    (λ k h. first_broken phase_rows.bound g phase_rows.invs.items phase_rows.rows c.self.inside.clashes at c.self.invariant.0 k h.0 h.1 h.2) c.first_noted.ensures)
