use Rattle.std.proofs.Common.{◌||◌, List, ap, ap₂, sym, ◌∙◌, subst}
use Rattle.std.specs.List.{All}
use Rattle.invariants.specs.declared.records.Edge.{Edge}
use Rattle.model_shape.specs.Shapes.{listed_type}
use Rattle.models.specs.Models.{has_edge}
use Rattle.std.proofs.lemmas.List.Elements.{All-from_recursion}
use Rattle.model_check.specs.Rows.{marked, IsEdgeWithin, AreApart}
use Rattle.model_check.proofs.Building.{ascends-apart, edges-within, IsBuilt, built-laid, built-shown}
use Rattle.model_check.proofs.Stepping.{none-known-right}
use Rattle.model_check.proofs.graph.ModelGraph.of.Goals as goal
use Rattle.model_check.proofs.graph.ModelGraph.of.Goals.{After-mark_edges}

pub types_of-requires-clause-apart : goal.types_of-requires-clause-apart
types_of-requires-clause-apart c = subst (λ xs. AreApart xs) (sym c.as_slice.ensures) (ascends-apart c.args.model.now.partitions c.requires.partitions.order)

pub mark_edges-requires : goal.mark_edges-requires
mark_edges-requires c =
    subst (λ (xs : List Edge). All IsEdgeWithin xs) (sym c.as_slice-3.ensures) (All-from_recursion IsEdgeWithin c.args.model.now.edges (edges-within c.args.model.now c.requires))

built : (c : After-mark_edges) → IsBuilt c.args.model.now c.in_ok-types.types.items c.mark_edges.new.rows
built c =
    record {
      size = c.in_ok-types.ensures.size;
      types_are = λ p. c.in_ok-types.ensures.types p ∙ ap (λ xs. listed_type p xs) c.as_slice.ensures;
      rows_are = λ r k.
          c.mark_edges.ensures r k
          ∙ ap₂ (λ a b. a || b)
          (c.mark_partitions.ensures r k ∙ ap₂ (λ a b. a || b) (c.in_ok-rows.ensures r k) (ap (λ xs. marked r k xs) c.as_slice-2.ensures))
          (ap (λ xs. has_edge r k xs) c.as_slice-3.ensures);
    }

pub invariant_of-result : goal.invariant_of-result
invariant_of-result c = (
  built-laid c.args.model.now c.in_ok-types.types.items c.mark_edges.new.rows c.requires (built ((goal.at.invariant_of-result c).After-mark_edges)),
  none-known-right c.mark_edges.new.rows c.in_ok-successors.successors.numbers.items c.in_ok-successors.successors.kept c.in_ok-successors.ensures.numbers,
)

pub returns : goal.returns
returns c = built-shown c.args.model.now c.in_ok-types.types.items c.mark_edges.new.rows c.requires (built ((goal.at.returns c).After-mark_edges))
