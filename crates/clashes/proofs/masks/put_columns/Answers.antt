use Rattle.std.proofs.Common.{◌+◌, ◌∙◌, arith}
use Rattle.std.proofs.lemmas.Option.{slice_get-get_or}
use Rattle.clashes.proofs.Columns.{columns_more}
use Rattle.clashes.proofs.Idle.{idle_same}
use Rattle.clashes.proofs.masks.put_columns.Goals as goal

pub loop-k-init : goal.loop-k-init
loop-k-init c = record {
  shape = c.put_idle.ensures.shape _ _ c.requires.shape;
  columns = λ k inv none get. absurd (omega (arith, none));
  idle = λ j above below. c.put_idle.ensures.idle j below;
  blank = λ r j above before. c.put_idle.ensures.blank r j before;
  ids = λ r j behind. c.put_idle.ensures.ids r j behind;
}

pub put_column-requires-clause-blank : goal.put_column-requires-clause-blank
put_column-requires-clause-blank c r before = c.loop-k.invariant.blank r c.loop-k.k (omega arith) before

pub loop-k-preserved : goal.loop-k-preserved
loop-k-preserved c =
    let i = c.loop-k.invariant in
    let e = c.put_column.ensures in
    record {
      shape = e.shape _ _ i.shape;
      columns = columns_more c.loop-k.rows c.put_column.new.rows c.args.others c.args.invs.now c.loop-k.k _ (slice_get-get_or c.args.invs.now c.loop-k.k _ c.loop-k-test.true) i.columns e.places e.column;
      idle = λ j above below. idle_same c.loop-k.rows c.put_column.new.rows (c.args.others + 1) j (λ r l. e.places r j (λ same. absurd (omega (arith, above, same)))) (i.idle j (omega (arith, above)) below);
      blank = λ r j above before. e.places r j (λ same. absurd (omega (arith, above, same))) ∙ i.blank r j (omega (arith, above)) before;
      ids = λ r j behind. e.ids r j behind ∙ i.ids r j behind;
    }

pub returns-clause-columns : goal.returns-clause-columns
returns-clause-columns c k inv l get = c.loop-k.invariant.columns k inv (omega (arith, c.loop-k-test.false)) get

pub returns-clause-ids : goal.returns-clause-ids
returns-clause-ids c = c.loop-k.invariant.ids
