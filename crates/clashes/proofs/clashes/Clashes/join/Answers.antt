use Rattle.std.proofs.Common.{◌≡◌, ℕ, true, ◌<◌, sym, subst}
use Rattle.limits.specs.declared.TheConstants.{MAX_PARTITIONS}
use Rattle.partition_model.specs.Assignments.{Assignment, G, IsTyped}
use Rattle.partition_model.specs.Coarsening.{merge}
use Rattle.clashes.specs.Marks.{Marks, AreMarksOf}
use Rattle.clashes.specs.Growing.{AreSound, HasBegun, AreEntered, IsClosedBeside}
use Rattle.clashes.proofs.Passing.{edges_below}
use Rattle.clashes.proofs.Joining.{merged_typed, joined_sound, joined_begun, joined_entered, joined_closed}
use Rattle.clashes.proofs.clashes.Clashes.join.Goals as goal

pub returns-clause-marks : goal.returns-clause-marks
returns-clause-marks g c h typed pair is had =
    let a : Assignment = c.args.graph.now.traces in
    let before : AreMarksOf c.self.inside.mark_rows (G h) = subst (λ (m : Marks). AreMarksOf m (G h)) (sym c.self.view_is) had in
    let below : (u v : ℕ) → (G (merge c.args.p c.args.q h)).edge u v ≡ true → (u < MAX_PARTITIONS) × (v < MAX_PARTITIONS) =
    subst (λ (x : Assignment). (u v : ℕ) → (G x).edge u v ≡ true → (u < MAX_PARTITIONS) × (v < MAX_PARTITIONS)) is (edges_below c.gather.new.self (G a) c.gather.ensures) in
    let still : IsTyped a = subst (λ (x : Assignment). IsTyped x) (sym is) (merged_typed h c.args.p c.args.q typed pair) in
    let sound : AreSound c.join.new.self (G a) =
    subst (λ (x : Assignment). AreSound c.join.new.self (G x)) (sym is) (joined_sound h c.args.p c.args.q c.self.inside.mark_rows c.join.new.self typed pair c.requires.gone before c.join.ensures) in
    let begun : HasBegun c.join.new.self (G a) =
    subst (λ (x : Assignment). HasBegun c.join.new.self (G x)) (sym is) (joined_begun h c.args.p c.args.q c.self.inside.mark_rows c.join.new.self typed pair c.requires.gone before c.join.ensures) in
    let entered : AreEntered c.join.new.self (G a) =
    subst (λ (x : Assignment). AreEntered c.join.new.self (G x)) (sym is) (joined_entered h c.args.p c.args.q c.self.inside.mark_rows c.join.new.self typed pair c.requires.gone before c.join.ensures below) in
    let closed : IsClosedBeside c.join.new.self (G a) c.args.p =
    subst (λ (x : Assignment). IsClosedBeside c.join.new.self (G x) c.args.p) (sym is) (joined_closed h c.args.p c.args.q c.self.inside.mark_rows c.join.new.self typed pair c.requires.gone before c.join.ensures below) in
    c.grow_from.ensures.marks still sound begun entered closed
