use Rattle.std.proofs.Common.{refl}
use Rattle.std.proofs.lemmas.Bool.{both_ways}
use Rattle.bit_rows.specs.Tables.{is_set}
use Rattle.partition_model.specs.Graphs.{Graph}
use Rattle.partition_model.specs.Assignments.{G}
use Rattle.clashes.specs.Growing.{HasEndsOnPaths, HasBegun, IsGrown, IsClosed}
use Rattle.clashes.proofs.Sound.{begun_grown, begun_has, begun_stays, entered_stays, has_ends, all_told}
use Rattle.clashes.proofs.Passing.{edges_below}
use Rattle.clashes.proofs.growing.grow.Goals as goal

pub returns-clause-marks : goal.returns-clause-marks
returns-clause-marks c typed sound =
    let g : Graph = G c.args.graph.now.traces in
    let paths : HasEndsOnPaths g = has_ends c.args.graph.now.traces typed (edges_below c.args.links.now g c.requires) in
    let one : IsGrown c.args.mark_rows.now c.begin.new.self g = begun_grown g c.args.mark_rows.now c.begin.new.self refl c.begin.ensures in
    let begun : HasBegun c.seed.new.mark_rows g = begun_stays c.begin.new.self c.seed.new.mark_rows g c.seed.ensures.grown (begun_has c.args.mark_rows.now c.begin.new.self g c.begin.ensures) in
    let closed : IsClosed c.propagate.new.mark_rows g =
    c.propagate.ensures.closed (λ u v edge from to. absurd (both_ways (is_set c.everywhere.result u) from (c.everywhere.ensures.fresh u (edges_below c.args.links.now g c.requires u v edge).0))) in
    all_told c.propagate.new.mark_rows g refl (c.propagate.ensures.grown.sound paths (c.seed.ensures.grown.sound paths (one.sound paths sound)))
    (begun_stays c.seed.new.mark_rows c.propagate.new.mark_rows g c.propagate.ensures.grown begun) (entered_stays c.seed.new.mark_rows c.propagate.new.mark_rows g c.propagate.ensures.grown c.seed.ensures.entered) closed
