use Rattle.std.proofs.Common.{false, arith}
use Rattle.labelling.specs.declared.layout.TheConstants.{LAST_PHASE}
use Rattle.labelling.specs.Carried.{IsPassed}
use Rattle.labelling.specs.Layout.{label_row}
use Rattle.labelling.proofs.Finding.{passed_at, kept_table, passed_blank, passed_marked, passed_grows, passed_but, carried_follows, carried_over, last_lets}
use Rattle.labelling.proofs.phase_rows.PhaseRows.keep_last.Goals as goal
use Rattle.labelling.proofs.phase_rows.PhaseRows.keep_last.Goals.{After-take_up}

at-rows : (c : After-take_up) → IsPassed c.args.self.now.rows c.take_up.new.rows (label_row c.args.self.now.bound c.args.p LAST_PHASE) (label_row c.args.self.now.bound c.args.q LAST_PHASE) (label_row c.args.self.now.bound c.args.p LAST_PHASE) false c.take_up.result
at-rows c = passed_at c.args.self.now.rows c.take_up.new.rows _ _ _ _ _ _ false c.take_up.result c.label_row.ensures.value c.label_row-to.ensures.value c.label_row.ensures.value c.take_up.ensures

pub invariant_of-self : goal.invariant_of-self
invariant_of-self c = record {
  table = kept_table c.args.self.now.bound c.args.self.now.invs.items c.args.self.now.rows c.take_up.new.rows c.take_up.ensures.shape c.args.self.now.table;
  state = passed_marked c.args.self.now.marked c.args.self.now.bound c.args.self.now.invs.items c.args.self.now.rows c.take_up.new.rows c.label_row.result c.label_row-to.result c.label_row.result false c.take_up.result
      c.requires.marked (omega (arith, c.label_row-to.ensures.within)) c.take_up.ensures c.args.self.now.state;
  blank = passed_blank c.args.self.now.bound c.args.self.now.used _ c.args.self.now.rows c.take_up.new.rows c.label_row.result c.label_row-to.result c.label_row.result false c.take_up.result
      (omega arith) (omega arith) (omega (arith, c.args.self.now.blank.limit, c.label_row-to.ensures.within)) c.take_up.ensures c.args.self.now.blank;
}

pub returns : goal.returns
returns c =
    let h = at-rows (goal.at.returns c).After-take_up in
    let b = c.args.self.now in
    record {
      marked = c.requires.marked;
      grows = passed_grows b.bound b.invs.items b.rows c.take_up.new.rows _ _ _ false c.take_up.result h;
      sound = λ typ. carried_follows b.bound b.invs.items b.rows c.take_up.new.rows c.args.p c.args.q typ LAST_PHASE LAST_PHASE _ _ c.take_up.result (last_lets b.invs.items b.rows (label_row b.bound c.args.p LAST_PHASE) typ) c.requires.from c.requires.to (omega arith) (omega arith) h;
      carried = λ typ. carried_over b.bound b.invs.items b.rows c.take_up.new.rows c.args.p c.args.q typ LAST_PHASE LAST_PHASE _ _ c.take_up.result (last_lets b.invs.items b.rows (label_row b.bound c.args.p LAST_PHASE) typ) c.requires.from c.requires.to (omega arith) (omega arith) h;
      others = passed_but b.bound b.invs.items b.rows c.take_up.new.rows _ c.args.q LAST_PHASE _ false c.take_up.result (omega arith) h;
    }
