use Rattle.std.proofs.Common.{arith, ap, ◌∙◌, length}
use Rattle.std.proofs.lemmas.List.{length-set}
use Rattle.labelling.proofs.Passing.{cleared_blank, cleared_other}
use Rattle.labelling.proofs.carrying.clear_between.Goals as goal

pub loop-row-preserved : goal.loop-row-preserved
loop-row-preserved c =
    let i = c.loop-row.invariant in
    record {
      count = ap length c.clear.ensures.rows ∙ length-set c.loop-row.rows c.loop-row.row _ ∙ i.count;
      shape = λ n m h. c.clear.ensures.shape n m (i.shape n m h);
      from = omega (arith, i.from);
      blank = cleared_blank c.loop-row.rows c.clear.new.self c.args.first c.loop-row.row (omega arith) c.clear.ensures.rows i.blank;
      before = λ r low. cleared_other c.loop-row.rows c.clear.new.self c.loop-row.row r c.clear.ensures.rows (λ e. absurd (omega (arith, low, e, i.from))) ∙ i.before r low;
      behind = λ r above. cleared_other c.loop-row.rows c.clear.new.self c.loop-row.row r c.clear.ensures.rows (λ e. absurd (omega (arith, above, e))) ∙ i.behind r (omega arith);
    }
