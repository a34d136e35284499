use Rattle.std.proofs.Common.{refl, arith, inl, inr}
use Rattle.labelling.specs.Layout.{label_row}
use Rattle.labelling.proofs.Finding.{still_off}
use Rattle.labelling.proofs.phase_rows.PhaseRows.mark_once.Goals as goal

pub returns : goal.returns
returns c =
    let b = c.args.self.now in
    let off = b.state.before c.if-self.false in
    record {
      same = refl;
      labels = λ k p s in_p low. still_off b.bound b.rows c.mark_all.new.rows (label_row b.bound p s) k off c.mark_all.ensures.free (inl (omega arith));
      broken = λ k. still_off b.bound b.rows c.mark_all.new.rows _ k off c.mark_all.ensures.free (inr refl);
      marked = refl;
    }
