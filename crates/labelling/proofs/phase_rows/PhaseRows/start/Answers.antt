use Rattle.std.proofs.Common.{false, refl, arith}
use Rattle.limits.specs.declared.TheConstants.{INITIAL}
use Rattle.labelling.specs.Carried.{IsPassed}
use Rattle.labelling.specs.Layout.{label_row, first_row}
use Rattle.labelling.proofs.Finding.{passed_at, kept_table, passed_blank, passed_marked, passed_grows, passed_but, started_at, started}
use Rattle.labelling.proofs.phase_rows.PhaseRows.start.Goals as goal
use Rattle.labelling.proofs.phase_rows.PhaseRows.start.Goals.{After-take_up}

at-rows : (c : After-take_up) → IsPassed c.args.self.now.rows c.take_up.new.rows (first_row c.args.phase) (label_row c.args.self.now.bound INITIAL c.args.phase) (first_row c.args.phase) false c.take_up.result
at-rows c = passed_at c.args.self.now.rows c.take_up.new.rows _ _ _ _ _ _ false c.take_up.result c.first_row.ensures.value c.label_row-to.ensures.value c.first_row.ensures.value c.take_up.ensures

pub invariant_of-self : goal.invariant_of-self
invariant_of-self c = record {
  table = kept_table c.args.self.now.bound c.args.self.now.invs.items c.args.self.now.rows c.take_up.new.rows c.take_up.ensures.shape c.args.self.now.table;
  state = passed_marked c.args.self.now.marked c.args.self.now.bound c.args.self.now.invs.items c.args.self.now.rows c.take_up.new.rows c.first_row.result c.label_row-to.result c.first_row.result false c.take_up.result
      c.requires.marked (omega (arith, c.label_row-to.ensures.within)) c.take_up.ensures c.args.self.now.state;
  blank = passed_blank c.args.self.now.bound c.args.self.now.used _ c.args.self.now.rows c.take_up.new.rows c.first_row.result c.label_row-to.result c.first_row.result false c.take_up.result
      (omega arith) (omega arith) (omega (arith, c.args.self.now.blank.limit, c.label_row-to.ensures.within)) c.take_up.ensures c.args.self.now.blank;
}

pub returns : goal.returns
returns c =
    let h = at-rows (goal.at.returns c).After-take_up in
    let b = c.args.self.now in
    let grows = passed_grows b.bound b.invs.items b.rows c.take_up.new.rows _ _ _ false c.take_up.result h in
    record {
      marked = c.requires.marked;
      same = refl;
      keeps = grows.keeps;
      sound = started_at b.bound b.invs.items b.rows c.take_up.new.rows c.args.phase c.take_up.result (b.state.after c.requires.marked) c.requires.phase h;
      start = started b.bound b.invs.items b.rows c.take_up.new.rows c.args.phase c.take_up.result (b.state.after c.requires.marked) c.requires.phase h;
      others = passed_but b.bound b.invs.items b.rows c.take_up.new.rows _ INITIAL c.args.phase _ false c.take_up.result c.requires.phase h;
    }
