use Rattle.std.proofs.Common.{◌≡◌, sym, subst}
use Rattle.partition_model.specs.Assignments.{G}
use Rattle.partition_graph.specs.NeighbourWords.{ArePlaces}
use Rattle.partition_graph.specs.Seen.{seen}
use Rattle.partition_graph.specs.declared.view.View.{View}
use Rattle.path_finder.specs.Merges.{unmerged}
use Rattle.path_finder.proofs.Merging.{same-edge}
use Rattle.path_finder.proofs.unmerged.is_unmerged_at.Goals as goal

pub returns-in-Merged : goal.returns-in-Merged
returns-in-Merged c apart u =
    let o = c.is_apart.ensures in
    let are = subst (λ (v : View). ArePlaces (λ x. (seen (unmerged v)).edge x c.args.id) c.args.places) c.in-Merged.is c.requires in
    subst (λ (v : View). (seen v).edge u c.args.id ≡ (seen (unmerged v)).edge u c.args.id) (sym c.in-Merged.is)
    (same-edge (G c.in-Merged.field-0.now.traces) c.in-Merged.kept c.in-Merged.gone u c.args.id (o.kept apart) (o.gone apart) (o.lacks apart (λ x. (G c.in-Merged.field-0.now.traces).edge x c.args.id) are))
