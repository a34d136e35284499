use Rattle.std.proofs.Common.{◌≡◌, ◌≢◌, ℕ, Bool, true, false, List, set, refl, ap, ◌∙◌, arith}
use Rattle.std.proofs.lemmas.Bool.{both_ways}
use Rattle.std.proofs.lemmas.List.{get_or-set_same}
use Rattle.bit_rows.specs.Tables.{is_set}
use Rattle.partition_model.specs.Graphs.{Graph}
use Rattle.partition_model.specs.Assignments.{G}
use Rattle.clashes.specs.Growing.{HasEndsOnPaths, IsClosed, IsStill}
use Rattle.clashes.proofs.Sound.{begun_stays, entered_stays, has_ends, all_told}
use Rattle.clashes.proofs.Passing.{edges_below}
use Rattle.clashes.proofs.growing.grow_from.Goals as goal

-- what is still is another id than the one that is new
another : (fresh : List Bool) (p u : ℕ) → is_set fresh p ≡ true → IsStill fresh u → u ≢ p
another fresh p u hit still e = both_ways (is_set fresh u) still (ap (λ (x : ℕ). is_set fresh x) e ∙ hit)

pub returns-clause-marks : goal.returns-clause-marks
returns-clause-marks c typed sound begun entered beside =
    let g : Graph = G c.args.graph.now.traces in
    let paths : HasEndsOnPaths g = has_ends c.args.graph.now.traces typed (edges_below c.args.links.now g c.requires.links) in
    let fresh : List Bool = set c.nowhere-recent.result c.args.p true in
    let hit : is_set fresh c.args.p ≡ true = get_or-set_same c.nowhere-recent.result c.args.p true false (omega (arith, c.nowhere-recent.ensures.room, c.requires.id)) in
    let closed : IsClosed c.propagate.new.mark_rows g = c.propagate.ensures.closed (λ u v edge from to. beside u v edge (another fresh c.args.p u hit from) (another fresh c.args.p v hit to)) in
    all_told c.propagate.new.mark_rows g refl (c.propagate.ensures.grown.sound paths sound)
    (begun_stays c.args.mark_rows.now c.propagate.new.mark_rows g c.propagate.ensures.grown begun) (entered_stays c.args.mark_rows.now c.propagate.new.mark_rows g c.propagate.ensures.grown entered) closed
