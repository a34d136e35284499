use Rattle.std.proofs.Common.{◌==◌, arith}
use Rattle.labelling.specs.PhaseRows.{found}
use Rattle.labelling.specs.Carried.{IsPassed}
use Rattle.labelling.specs.Layout.{label_row, move_row}
use Rattle.labelling.proofs.Finding.{passed_at, kept_table, passed_blank, passed_marked, passed_grows, passed_but, carried_follows, carried_over, move_lets, far_carried, LetsThrough}
use Rattle.labelling.proofs.phase_rows.PhaseRows.carry.Goals as goal
use Rattle.labelling.proofs.phase_rows.PhaseRows.carry.Goals.{After-pass}

at-rows : (c : After-pass) → IsPassed c.args.self.now.rows c.pass.new.rows (label_row c.args.self.now.bound c.args.p c.args.phase) (label_row c.args.self.now.bound c.args.q c.args.next) (move_row c.row_type.result c.args.phase c.args.next) (c.args.phase == c.args.next) c.pass.result
at-rows c = passed_at c.args.self.now.rows c.pass.new.rows _ _ _ _ _ _ (c.args.phase == c.args.next) c.pass.result c.label_row.ensures.value c.label_row-to.ensures.value c.move_row-mask.ensures.value c.pass.ensures

pub invariant_of-self : goal.invariant_of-self
invariant_of-self c = record {
  table = kept_table c.args.self.now.bound c.args.self.now.invs.items c.args.self.now.rows c.pass.new.rows c.pass.ensures.shape c.args.self.now.table;
  state = passed_marked c.args.self.now.marked c.args.self.now.bound c.args.self.now.invs.items c.args.self.now.rows c.pass.new.rows c.label_row.result c.label_row-to.result c.move_row-mask.result (c.args.phase == c.args.next) c.pass.result
      c.requires.marked (omega (arith, c.label_row-to.ensures.within)) c.pass.ensures c.args.self.now.state;
  blank = passed_blank c.args.self.now.bound c.args.self.now.used _ c.args.self.now.rows c.pass.new.rows c.label_row.result c.label_row-to.result c.move_row-mask.result (c.args.phase == c.args.next) c.pass.result
      (omega arith) (omega arith) (omega (arith, c.args.self.now.blank.limit, c.label_row-to.ensures.within)) c.pass.ensures c.args.self.now.blank;
}

pub returns : goal.returns
returns c =
    let h = at-rows (goal.at.returns c).After-pass in
    let b = c.args.self.now in
    let lets : LetsThrough b.invs.items b.rows (label_row b.bound c.args.p c.args.phase) (move_row c.row_type.result c.args.phase c.args.next) (c.args.phase == c.args.next) c.args.typ c.args.phase c.args.next =
    move_lets b.bound b.invs.items b.rows (label_row b.bound c.args.p c.args.phase) c.row_type.result c.args.typ c.args.phase c.args.next (b.state.after c.requires.marked) c.row_type.ensures.within (λ k inv z at. c.row_type.ensures.acts k inv z at) (omega arith) (omega arith) in
    record {
      marked = c.requires.marked;
      grows = passed_grows b.bound b.invs.items b.rows c.pass.new.rows _ _ _ (c.args.phase == c.args.next) c.pass.result h;
      sound = carried_follows b.bound b.invs.items b.rows c.pass.new.rows c.args.p c.args.q c.args.typ c.args.phase c.args.next _ _ c.pass.result lets c.requires.from c.requires.to (omega (arith, c.requires.phase)) c.requires.next h;
      carried = carried_over b.bound b.invs.items b.rows c.pass.new.rows c.args.p c.args.q c.args.typ c.args.phase c.args.next _ _ c.pass.result lets c.requires.from c.requires.to (omega (arith, c.requires.phase)) c.requires.next h;
      others = passed_but b.bound b.invs.items b.rows c.pass.new.rows _ c.args.q c.args.next _ (c.args.phase == c.args.next) c.pass.result c.requires.next h;
    }

pub returns-then-next-phase-clause-carried : goal.returns-then-next-phase-clause-carried
returns-then-next-phase-clause-carried c =
    far_carried c.args.p c.args.phase c.args.typ c.args.q c.args.next (found c.args.self.now) (omega (arith, c.if-next-phase.true, c.requires.phase, c.requires.next)) (omega (arith, c.if-next-phase.true))
