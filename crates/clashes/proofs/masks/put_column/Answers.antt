use Rattle.std.proofs.Common.{◌+◌, ◌∙◌, arith, inl}
use Rattle.clashes.specs.Layout.{enters_row, stays_row, falls_row}
use Rattle.clashes.proofs.Columns.{column_named, usual_at, behind_masks}
use Rattle.clashes.proofs.Idle.{idle_same}
use Rattle.clashes.proofs.masks.put_column.Goals as goal

pub put_masks-requires-clause-place : goal.put_masks-requires-clause-place
put_masks-requires-clause-place c = (c.requires.place.0, c.requires.place.1, c.put_ends.ensures.shape _ _ c.requires.place.2)

pub put_masks-requires-clause-enters : goal.put_masks-requires-clause-enters
put_masks-requires-clause-enters c = inl (c.put_ends.ensures.masks (enters_row c.args.inv.a) c.args.k (omega arith) ∙ c.requires.idle.enters c.args.inv.a (omega (arith, c.requires.named)))

pub put_masks-requires-clause-stays : goal.put_masks-requires-clause-stays
put_masks-requires-clause-stays c = inl (c.put_ends.ensures.masks (stays_row c.args.inv.a) c.args.k (omega arith) ∙ c.requires.idle.stays c.args.inv.a (omega (arith, c.requires.named)))

pub put_masks-requires-clause-falls : goal.put_masks-requires-clause-falls
put_masks-requires-clause-falls c = inl (c.put_ends.ensures.masks (falls_row c.args.inv.a) c.args.k (omega arith) ∙ c.requires.idle.falls c.args.inv.a (omega (arith, c.requires.named)))

pub put_masks-requires-2 : goal.put_masks-requires-2
put_masks-requires-2 c =
    let idle = idle_same c.args.rows.now c.put_ends.new.rows (c.args.others + 1) c.args.k (λ r l. c.put_ends.ensures.masks r c.args.k l) c.requires.idle in
    let usual = usual_at c.put_ends.new.rows c.put_masks.new.rows (c.args.others + 1) c.args.inv.b c.args.inv.a c.args.k c.args.inv idle (omega (arith, c.requires.named)) c.put_masks.ensures.masks in
    record {
      low = c.requires.low;
      typ = omega (arith, c.requires.named);
      place = (c.requires.place.0, c.requires.place.1, c.put_masks.ensures.shape _ _ (c.put_ends.ensures.shape _ _ c.requires.place.2));
      enters = usual.enters;
      stays = usual.stays;
      falls = usual.falls;
    }

pub returns : goal.returns
returns c =
    let ends = c.put_ends.ensures in
    let a = c.put_masks.ensures in
    let b = c.put_masks-2.ensures in
    record {
      column = column_named c.put_ends.new.rows c.put_masks.new.rows c.put_masks-2.new.rows (c.args.others + 1) c.args.k c.args.inv
          (idle_same c.args.rows.now c.put_ends.new.rows (c.args.others + 1) c.args.k (λ r l. ends.masks r c.args.k l) c.requires.idle) ends.starts ends.bad a.masks b.masks;
      ids = λ r j behind. behind_masks c.put_masks.new.rows c.put_masks-2.new.rows r c.args.others c.args.inv.b c.args.k j c.args.inv b.masks (omega (arith, c.requires.named)) behind
          ∙ behind_masks c.put_ends.new.rows c.put_masks.new.rows r c.args.others c.args.inv.a c.args.k j c.args.inv a.masks (omega (arith, c.requires.named)) behind
          ∙ ends.masks r j (omega (arith, behind));
      places = λ r j ne. b.masks.places r j ne ∙ a.masks.places r j ne ∙ ends.places r j ne;
      shape = λ n bits h. b.shape n bits (a.shape n bits (ends.shape n bits h));
    }
