use Rattle.std.proofs.Common.{◌≡◌, ℕ, true≢false, List, sym, ◌∙◌, subst, subst₂}
use Rattle.std.proofs.lemmas.List.Elements.{All-from_recursion}
use Rattle.std.specs.List.{All}
use Rattle.invariants.specs.declared.Invariant.{Invariant}
use Rattle.invariants.specs.declared.records.Edge.{Edge}
use Rattle.model_check.specs.Rows.{shown, IsEdgeWithin}
use Rattle.model_check.specs.States.{AreRightEnds, LeadsWithin}
use Rattle.model_check.proofs.Building.{edges-within}
use Rattle.model_check.proofs.Inductive.{labelled-ends, labelled-leads, labelled-from}
use Rattle.model_check.proofs.labels.is_labelled.Goals as goal
use Rattle.model_check.proofs.labels.is_labelled.Goals.{After-has_right_ends}

pub keep_along-requires : goal.keep_along-requires
keep_along-requires c =
    subst (λ (xs : List Edge). All IsEdgeWithin xs) (sym c.as_slice.ensures) (All-from_recursion IsEdgeWithin c.args.model.now.edges (edges-within c.args.model.now c.requires.shaped))

pub returns-then-not-has_right_ends : goal.returns-then-not-has_right_ends
returns-then-not-has_right_ends c =
    let d : After-has_right_ends = (goal.at.returns-then-not-has_right_ends c).After-has_right_ends in (
      λ f. absurd (true≢false (sym f)),
      λ i.
          let ends : AreRightEnds c.args.listed.now.inv (shown c.args.graph.now) c.get-initial.result c.get-terminal.result =
          subst₂ (λ (initial terminal : ℕ). AreRightEnds c.args.listed.now.inv (shown c.args.graph.now) initial terminal) (sym c.get-initial.ensures) (sym c.get-terminal.ensures)
          (labelled-ends c.args.model.now c.args.listed.now c.lay.new.self (shown c.args.graph.now) c.requires.graph d.lay.ensures i) in
          absurd (true≢false (sym (c.has_right_ends.ensures.1 ends) ∙ c.if-not-has_right_ends.true)),
    )

pub returns : goal.returns
returns c =
    let d : After-has_right_ends = (goal.at.returns c).After-has_right_ends in
    let inv : c.of.result.inv ≡ c.args.listed.now.inv = c.of.ensures in
    let m = c.args.model.now in
    let g = shown c.args.graph.now in
    let labels : List ℕ = c.lay.new.self in (
      λ t.
          labelled-from m c.args.listed.now labels g c.requires.graph d.lay.ensures
          (subst₂ (λ (initial terminal : ℕ). AreRightEnds c.args.listed.now.inv g initial terminal) c.get-initial.ensures c.get-terminal.ensures (c.has_right_ends.ensures.0 c.if-not-has_right_ends.false))
          (subst₂ (λ (i : Invariant) (es : List Edge). All (LeadsWithin i g labels) es) inv c.as_slice.ensures (c.keep_along.ensures.0 t)),
      λ i.
          c.keep_along.ensures.1
          (subst₂ (λ (i : Invariant) (es : List Edge). All (LeadsWithin i g labels) es) (sym inv) (sym c.as_slice.ensures) (labelled-leads m c.args.listed.now labels g c.requires.graph d.lay.ensures i)),
    )
