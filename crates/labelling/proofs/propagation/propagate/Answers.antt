use Rattle.std.proofs.Common.{arith}
use Rattle.labelling.specs.PhaseRows.{found}
use Rattle.labelling.proofs.Growing.{grows_none, grows_more, carried_on, moves_on, same_but_more, propagated_of_moves}
use Rattle.labelling.proofs.propagation.propagate.Goals as goal

pub loop-place-init : goal.loop-place-init
loop-place-init c = record {
  marked = c.keep_last-changed.ensures.marked;
  grows = c.keep_last-changed.ensures.grows;
  sound = c.keep_last-changed.ensures.sound c.args.typ;
  last = c.keep_last-changed.ensures.carried c.args.typ;
  others = c.keep_last-changed.ensures.others;
  moves = λ m none. absurd (omega (arith, none));
}

pub loop-place-preserved : goal.loop-place-preserved
loop-place-preserved c =
    let first = found c.args.phase_rows.now in
    let old = found c.loop-place.phase_rows in
    let new = found c.carry-more.new.self in
    let i = c.loop-place.invariant in
    let e = c.carry-more.ensures in
    record {
      marked = e.marked;
      grows = grows_more first old new c.loop-place.changed c.carry-more.result i.grows e.grows;
      sound = λ g edge is h. e.sound g edge is (i.sound g edge is h);
      last = carried_on first first old new _ c.carry-more.result c.args.link.from _ c.args.typ c.args.link.to _ (grows_none first) i.last e.grows;
      others = same_but_more c.args.link.to first old new i.others e.others;
      moves = moves_on c.args.link.from c.args.link.to c.args.typ c.loop-place.place first old new c.loop-place.changed c.carry-more.result i.grows e.grows i.moves e.carried;
    }

pub returns : goal.returns
returns c = record {
  marked = c.loop-place.invariant.marked;
  grows = c.loop-place.invariant.grows;
  sound = c.loop-place.invariant.sound;
  propagated = propagated_of_moves c.args.link.from c.args.link.to c.args.typ (found c.args.phase_rows.now) (found c.loop-place.phase_rows) c.loop-place.invariant.last (λ m below. c.loop-place.invariant.moves m (omega arith));
  others = c.loop-place.invariant.others;
}
