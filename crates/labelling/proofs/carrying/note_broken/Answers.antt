use Rattle.std.proofs.Common.{ℕ, false, arith, ◌∙◌, length, subst₂}
use Rattle.labelling.specs.Carried.{IsPassed}
use Rattle.bit_rows.specs.Tables.{row_at}
use Rattle.labelling.specs.declared.layout.TheConstants.{BROKEN_ROW}
use Rattle.labelling.proofs.Passing.{own_shape, bad_none, bad_more, cleared_here, cleared_other}
use Rattle.labelling.proofs.carrying.note_broken.Goals as goal

pub loop-state-init : goal.loop-state-init
loop-state-init c = record {
  count = (c.clear.ensures.shape _ _ c.requires.shape).count;
  shape = c.clear.ensures.shape;
  broken = λ k. bad_none c.args.bound c.args.rows.now c.clear.new.self k (cleared_here c.args.rows.now c.clear.new.self BROKEN_ROW k (omega (arith, c.requires.room)) c.clear.ensures.rows);
  others = λ r ne. cleared_other c.args.rows.now c.clear.new.self BROKEN_ROW r c.clear.ensures.rows ne;
}

pub pass-requires-clause-shape : goal.pass-requires-clause-shape
pass-requires-clause-shape c = own_shape c.loop-state.rows (length c.args.rows.now) (length (row_at c.args.rows.now BROKEN_ROW)) BROKEN_ROW (c.loop-state.invariant.shape _ _ c.requires.shape) (omega (arith, c.requires.room))

pub loop-state-preserved : goal.loop-state-preserved
loop-state-preserved c = record {
  count = (c.pass.ensures.shape _ _ (c.loop-state.invariant.shape _ _ c.requires.shape)).count;
  shape = λ n m h. c.pass.ensures.shape n m (c.loop-state.invariant.shape n m h);
  broken = λ k. bad_more c.args.bound c.args.rows.now c.loop-state.rows c.pass.new.rows c.loop-state.state k c.pass.result (omega arith) c.loop-state.invariant.others
      (subst₂ (λ (x y : ℕ). IsPassed c.loop-state.rows c.pass.new.rows x BROKEN_ROW y false c.pass.result) c.label_row.ensures.value c.bad_row.ensures.value c.pass.ensures) (c.loop-state.invariant.broken k);
  others = λ r ne. c.pass.ensures.others r ne ∙ c.loop-state.invariant.others r ne;
}
