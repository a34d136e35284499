-- Labels by ids are inductive where the start, the end and each edge are right.
use Rattle.std.proofs.Common.{◌≡◌, ℕ, true, List, get_or, sym, ◌∙◌, ap, subst, subst₂}
use Rattle.std.proofs.lemmas.List.Elements.{All-from_recursion, recursion_from_All}
use Rattle.std.specs.List.{All}
use Rattle.limits.specs.declared.TheConstants.{INITIAL, TERMINAL}
use Rattle.invariants.specs.declared.records.Edge.{Edge}
use Rattle.invariants.specs.declared.records.Listed.{Listed}
use Rattle.invariants.specs.declared.records.Model.{Model}
use Rattle.invariants.specs.Monitors.{step}
use Rattle.partition_model.specs.Graphs.{Graph}
use Rattle.partition_model.proofs.Lists.{In, all_in, all_from}
use Rattle.models.specs.Models.{graph_of, has_state, label_at, IsLabelled}
use Rattle.models.proofs.Agreeing.{In-edges, edge-in}
use Rattle.model_check.specs.States.{AreRightEnds, LeadsWithin}

-- a label for each id, from the labels beside the partitions
abbrev pub AreLabelsOf : Model → Listed → List ℕ → Type 0
AreLabelsOf m l labels = (p : ℕ) → get_or labels p 0 ≡ label_at p m.partitions l.labels

module _ (m : Model) (l : Listed) (labels : List ℕ) (g : Graph) (same : g ≡ graph_of m) (laid : AreLabelsOf m l labels) where
  -- where labels are inductive, those of the two ends are right
  pub labelled-ends : IsLabelled m l → AreRightEnds l.inv g (get_or labels INITIAL 0) (get_or labels TERMINAL 0)
  labelled-ends i =
      record {
        start = subst₂ (λ (n : ℕ) (h : Graph). has_state n (step l.inv 0 (h.typ INITIAL)) ≡ true) (sym (laid INITIAL)) (sym same) i.start;
        end = λ s h. i.end s (subst (λ (n : ℕ). has_state n s ≡ true) (laid TERMINAL) h);
      }

  -- where labels are inductive, each edge leads from label to label
  leads : IsLabelled m l → (e : Edge) → In e m.edges → LeadsWithin l.inv g labels e
  leads i e member s h =
      let here : has_state (label_at e.from m.partitions l.labels) s ≡ true = subst (λ (n : ℕ). has_state n s ≡ true) (laid e.from) h in
      let there : has_state (label_at e.to m.partitions l.labels) (step l.inv s ((graph_of m).typ e.to)) ≡ true = i.along e.from e.to s (In-edges e m.edges member) here in
      subst₂ (λ (n : ℕ) (k : Graph). has_state n (step l.inv s (k.typ e.to)) ≡ true) (sym (laid e.to)) (sym same) there

  -- where labels are inductive, all edges lead from label to label
  pub labelled-leads : IsLabelled m l → All (LeadsWithin l.inv g labels) m.edges
  labelled-leads i = All-from_recursion (LeadsWithin l.inv g labels) m.edges (all_from (LeadsWithin l.inv g labels) m.edges (leads i))

  -- where the two ends and all edges are right, the labels are inductive
  pub labelled-from : AreRightEnds l.inv g (get_or labels INITIAL 0) (get_or labels TERMINAL 0) → All (LeadsWithin l.inv g labels) m.edges → IsLabelled m l
  labelled-from ends along =
      record {
        start = subst₂ (λ (n : ℕ) (h : Graph). has_state n (step l.inv 0 (h.typ INITIAL)) ≡ true) (laid INITIAL) same ends.start;
        along = λ p q s e h.
            let o : (x : Edge) × In x m.edges × (x.from ≡ p) × (x.to ≡ q) = edge-in p q m.edges e in
            let w : LeadsWithin l.inv g labels o.0 = all_in (LeadsWithin l.inv g labels) o.0 m.edges (recursion_from_All (LeadsWithin l.inv g labels) m.edges along) o.1 in
            let here : has_state (get_or labels o.0.from 0) s ≡ true = subst (λ (n : ℕ). has_state n s ≡ true) (sym (laid o.0.from ∙ ap (λ (x : ℕ). label_at x m.partitions l.labels) o.2)) h in
            let there : has_state (get_or labels o.0.to 0) (step l.inv s (g.typ o.0.to)) ≡ true = w s here in
            let moved : has_state (label_at o.0.to m.partitions l.labels) (step l.inv s ((graph_of m).typ o.0.to)) ≡ true =
            subst₂ (λ (n : ℕ) (k : Graph). has_state n (step l.inv s (k.typ o.0.to)) ≡ true) (laid o.0.to) same there in
            subst (λ (x : ℕ). has_state (label_at x m.partitions l.labels) (step l.inv s ((graph_of m).typ x)) ≡ true) o.3 moved;
        end = λ s h. ends.end s (subst (λ (n : ℕ). has_state n s ≡ true) (sym (laid TERMINAL)) h);
      }
