use Rattle.std.proofs.Common.{arith}
use Rattle.bit_rows.specs.Tables.{HasShape}
use Rattle.clashes.specs.Layout.{row_count}
use Rattle.clashes.proofs.Idle.{idle_begun, idle_more, idle_done}
use Rattle.clashes.proofs.masks.put_idle.Goals as goal

pub loop-x-init : goal.loop-x-init
loop-x-init c = (
  c.turn_on.ensures.shape,
  idle_begun c.args.rows.now c.turn_on.new.rows c.args.others c.args.count c.stays_row-last.result c.stays_row-last.ensures c.requires.blank c.turn_on.ensures.here c.turn_on.ensures.others,
)

pub copy_into-requires-clause-to_row : goal.copy_into-requires-clause-to_row
copy_into-requires-clause-to_row c =
    let s : HasShape c.loop-x.rows (row_count c.args.others) c.args.count = c.loop-x.invariant.0 _ _ c.requires.shape in
    omega (arith, s.count, c.stays_row.ensures)

pub copy_into-requires-clause-from_row : goal.copy_into-requires-clause-from_row
copy_into-requires-clause-from_row c =
    let s : HasShape c.loop-x.rows (row_count c.args.others) c.args.count = c.loop-x.invariant.0 _ _ c.requires.shape in
    omega (arith, s.count, c.stays_row-last.ensures)

pub loop-x-preserved : goal.loop-x-preserved
loop-x-preserved c =
    let s : HasShape c.loop-x.rows (row_count c.args.others) c.args.count = c.loop-x.invariant.0 _ _ c.requires.shape in (
      λ n bits h. c.copy_into.ensures.shape n bits (c.loop-x.invariant.0 n bits h),
      idle_more c.loop-x.rows c.copy_into.new.self c.args.others c.args.count c.loop-x.x c.args.count c.stays_row.result c.stays_row-last.result s (omega arith) c.stays_row.ensures c.stays_row-last.ensures
          c.copy_into.ensures.rows c.loop-x.invariant.1,
    )

pub returns-clause-idle : goal.returns-clause-idle
returns-clause-idle c k l = idle_done c.loop-x.rows c.args.others c.loop-x.x c.args.count k (omega (arith, c.loop-x-test.false)) c.loop-x.invariant.1 l

pub returns-clause-blank : goal.returns-clause-blank
returns-clause-blank c = c.loop-x.invariant.1.blank

pub returns-clause-ids : goal.returns-clause-ids
returns-clause-ids c = c.loop-x.invariant.1.ids
