use Rattle.std.proofs.Common.{arith, ◌∙◌, inl}
use Rattle.clashes.specs.declared.places.TheConstants.{START, BAD}
use Rattle.clashes.specs.Layout.{row_count}
use Rattle.clashes.proofs.Masking.{one_bit, ends_put}
use Rattle.clashes.proofs.masks.put_ends.Goals as goal

pub put_unless-requires-2-clause-so_far : goal.put_unless-requires-2-clause-so_far
put_unless-requires-2-clause-so_far c =
    let first = one_bit c.args.rows.now c.put_unless.new.rows (row_count c.args.others) c.requires.place.0 START c.args.k c.starts.result c.requires.place.1 c.requires.place.2 (omega arith) c.put_unless.ensures.rows in
    inl (first.1 BAD c.args.k (λ e f. absurd (omega (arith, e))) ∙ c.requires.blank BAD (omega arith))

pub returns : goal.returns
returns c =
    let ends = ends_put c.args.rows.now c.put_unless.new.rows c.put_unless-2.new.rows c.args.others c.requires.place.0 c.args.k c.starts.result c.is_bad_itself.result c.requires.place.1 c.requires.place.2 (c.put_unless.ensures.shape _ _ c.requires.place.2)
    c.put_unless.ensures.rows c.put_unless-2.ensures.rows in
    record {
      starts = ends.starts ∙ c.starts.ensures;
      bad = ends.bad ∙ c.is_bad_itself.ensures;
      masks = ends.masks;
      places = ends.places;
      shape = λ n bits h. c.put_unless-2.ensures.shape n bits (c.put_unless.ensures.shape n bits h);
    }
