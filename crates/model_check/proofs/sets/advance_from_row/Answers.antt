use Rattle.std.proofs.Common.{◌≢◌, ◌≤◌, ℕ, arith}
use Rattle.model_check.specs.declared.sets.TheConstants.{NEXT, KEPT}
use Rattle.model_check.proofs.Advancing.{advance_none, advance_more}
use Rattle.model_check.proofs.sets.advance_from_row.Goals as goal

-- the row of the set is not that of the next one
apart : (set : ℕ) → KEPT ≤ set → set ≢ NEXT
apart set l = omega arith

pub loop-p-init : goal.loop-p-init
loop-p-init c = advance_none c.args.rows.now c.clear.new.self c.args.set c.args.typ c.clear.ensures.others c.clear.ensures.row

pub loop-p-preserved : goal.loop-p-preserved
loop-p-preserved c =
    advance_more c.args.rows.now c.loop-p.rows c.join.new.self c.args.set c.args.typ c.loop-p.from c.in-Some.p (apart c.args.set c.requires.row) c.in-Some.ensures.within c.in-Some.ensures.behind c.requires.typ
    c.join.ensures.others c.join.ensures.row c.in-Some.ensures.set c.in-Some.ensures.first c.loop-p.invariant
