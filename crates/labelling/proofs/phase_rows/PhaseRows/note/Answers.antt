use Rattle.std.proofs.Common.{List, Bool, ap, refl, arith}
use Rattle.bit_rows.specs.Tables.{is_set}
use Rattle.labelling.specs.Layout.{label_row}
use Rattle.labelling.proofs.Finding.{kept_blank, kept_marked, kept_table, noted}
use Rattle.labelling.proofs.phase_rows.PhaseRows.note.Goals as goal

pub invariant_of-self : goal.invariant_of-self
invariant_of-self c = record {
  table = kept_table c.args.self.now.bound c.args.self.now.invs.items c.args.self.now.rows c.note_broken.new.rows c.note_broken.ensures.shape c.args.self.now.table;
  state = kept_marked c.args.self.now.marked c.args.self.now.bound c.args.self.now.invs.items c.args.self.now.rows c.note_broken.new.rows c.requires (λ r above other. c.note_broken.ensures.others r other) c.args.self.now.state;
  blank = kept_blank c.args.self.now.bound c.args.self.now.used c.args.self.now.rows c.note_broken.new.rows (λ r low. c.note_broken.ensures.others r (λ e. absurd (omega (arith, low, e)))) c.args.self.now.blank;
}

pub returns : goal.returns
returns c = record {
  marked = c.requires;
  same = refl;
  labels = λ k p s in_p low. ap (λ (x : List Bool). is_set x k) (c.note_broken.ensures.others (label_row c.args.self.now.bound p s) (λ e. absurd (omega (arith, in_p, low, e))));
  noted = noted c.args.self.now.bound c.args.self.now.invs.items c.args.self.now.rows c.note_broken.new.rows (c.args.self.now.state.after c.requires) c.note_broken.ensures.broken c.note_broken.ensures.others;
}
