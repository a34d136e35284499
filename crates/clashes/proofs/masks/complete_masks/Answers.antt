use Rattle.std.proofs.Common.{length, sym, ◌∙◌}
use Rattle.clashes.specs.Layout.{ids_from, row_count}
use Rattle.clashes.proofs.Kept.{laid_of, same_from}
use Rattle.clashes.proofs.masks.complete_masks.Goals as goal

pub returns-then-masked-clause-laid : goal.returns-then-masked-clause-laid
returns-then-masked-clause-laid c = laid_of c.args.invs.now c.args.others c.args.masked.now c.args.rows.now c.if-masked.true c.requires

pub returns-clause-ids : goal.returns-clause-ids
returns-clause-ids c =
    same_from c.args.rows.now c.put_columns.new.rows (row_count c.args.others) (length c.args.invs.now) (ids_from c.args.others) c.requires.shape c.put_columns.ensures.shape
    (λ r k behind. c.put_columns.ensures.ids r k behind ∙ sym (c.requires.blank c.if-masked.false r k))
