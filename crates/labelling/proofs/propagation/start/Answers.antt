use Rattle.std.proofs.Common.{refl, ◌∙◌, arith}
use Rattle.labelling.specs.PhaseRows.{found}
use Rattle.labelling.proofs.Growing.{nothing_reached, same_but_more, starts_more}
use Rattle.labelling.proofs.propagation.start.Goals as goal

pub loop-phase-init : goal.loop-phase-init
loop-phase-init c = record {
  marked = c.requires.marked;
  same = refl;
  sound = λ g is. nothing_reached g (found c.args.phase_rows.now) c.requires.nothing;
  others = λ k p s ne low on. on;
  start = λ t none. absurd (omega (arith, none));
}

pub loop-phase-preserved : goal.loop-phase-preserved
loop-phase-preserved c =
    let e = c.start.ensures in
    record {
      marked = e.marked;
      same = e.same ∙ c.loop-phase.invariant.same;
      sound = λ g is. e.sound g is (c.loop-phase.invariant.sound g is);
      others = same_but_more _ (found c.args.phase_rows.now) (found c.loop-phase.phase_rows) (found c.start.new.self) c.loop-phase.invariant.others e.others;
      start = starts_more c.loop-phase.phase (found c.loop-phase.phase_rows) (found c.start.new.self) e.same e.keeps c.loop-phase.invariant.start e.start;
    }
