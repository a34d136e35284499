use Rattle.std.proofs.Common.{◌≡◌, ◌⊎◌, ℕ, Bool, true, false, List, slice_set, sym, subst₂, arith, ap₂, ◌∙◌}
use Rattle.bit_rows.specs.Tables.{row_at, HasShape}
use Rattle.clashes.specs.Layout.{stays_row, falls_row, row_count}
use Rattle.clashes.specs.Marks.{on}
use Rattle.clashes.proofs.Masking.{in_table, one_bit, so_far_kept, three_bits}
use Rattle.clashes.proofs.masks.put_masks.Goals as goal

-- what a bit is so far, where its row and what it is to be are given by other terms
so_far_at : (T : List (List Bool)) (k r s : ℕ) (b bit usual : Bool) → r ≡ s → b ≡ bit → (on T s k ≡ usual) ⊎ (on T s k ≡ bit) → (on T r k ≡ usual) ⊎ (on T r k ≡ b)
so_far_at T k r s b bit usual at is = subst₂ (λ (x : ℕ) (y : Bool). (on T x k ≡ usual) ⊎ (on T x k ≡ y)) (sym at) (sym is)

pub put_unless-requires : goal.put_unless-requires
put_unless-requires c =
    let inside = in_table c.args.rows.now (row_count c.args.others) c.requires.place.0 c.enters_row.result c.args.k c.requires.place.1 c.requires.place.2 (omega (arith, c.enters_row.ensures, c.requires.typ)) in
    record {
      row = inside.0;
      place = inside.1;
      so_far = so_far_at c.args.rows.now c.args.k c.enters_row.result _ c.enters.result _ false c.enters_row.ensures c.enters.ensures c.requires.enters;
    }

pub put_unless-requires-2 : goal.put_unless-requires-2
put_unless-requires-2 c =
    let n : ℕ = row_count c.args.others in
    let old = c.args.rows.now in
    let a = c.put_unless.new.rows in
    let s : HasShape a n c.requires.place.0 = c.put_unless.ensures.shape _ _ c.requires.place.2 in
    let inside = in_table a n c.requires.place.0 c.stays_row.result c.args.k c.requires.place.1 s (omega (arith, c.stays_row.ensures, c.requires.typ)) in
    let first = one_bit old a n c.requires.place.0 c.enters_row.result c.args.k c.enters.result c.requires.place.1 c.requires.place.2 (omega (arith, c.enters_row.ensures, c.requires.typ)) c.put_unless.ensures.rows in
    record {
      row = inside.0;
      place = inside.1;
      so_far = so_far_at a c.args.k c.stays_row.result _ c.stays.result _ true c.stays_row.ensures c.stays.ensures
          (so_far_kept old a (stays_row c.args.x) c.args.k _ true (first.1 (stays_row c.args.x) c.args.k (λ e f. absurd (omega (arith, e, c.enters_row.ensures)))) c.requires.stays);
    }

pub put_unless-requires-3 : goal.put_unless-requires-3
put_unless-requires-3 c =
    let n : ℕ = row_count c.args.others in
    let old = c.args.rows.now in
    let a = c.put_unless.new.rows in
    let b = c.put_unless-2.new.rows in
    let s : HasShape a n c.requires.place.0 = c.put_unless.ensures.shape _ _ c.requires.place.2 in
    let t : HasShape b n c.requires.place.0 = c.put_unless-2.ensures.shape _ _ s in
    let inside = in_table b n c.requires.place.0 c.falls_row.result c.args.k c.requires.place.1 t (omega (arith, c.falls_row.ensures, c.requires.typ)) in
    let first = one_bit old a n c.requires.place.0 c.enters_row.result c.args.k c.enters.result c.requires.place.1 c.requires.place.2 (omega (arith, c.enters_row.ensures, c.requires.typ)) c.put_unless.ensures.rows in
    let second = one_bit a b n c.requires.place.0 c.stays_row.result c.args.k c.stays.result c.requires.place.1 s (omega (arith, c.stays_row.ensures, c.requires.typ)) c.put_unless-2.ensures.rows in
    let r : ℕ = falls_row c.args.x in
    record {
      row = inside.0;
      place = inside.1;
      so_far = so_far_at b c.args.k c.falls_row.result r c.falls.result _ false c.falls_row.ensures c.falls.ensures
          (so_far_kept old b r c.args.k _ false
          (second.1 r c.args.k (λ e f. absurd (omega (arith, e, c.stays_row.ensures))) ∙ first.1 r c.args.k (λ e f. absurd (omega (arith, e, c.enters_row.ensures))))
          c.requires.falls);
    }

-- a table with one bit set
with_one : List (List Bool) → ℕ → ℕ → Bool → List (List Bool)
with_one t k r bit = slice_set t r (slice_set (row_at t r) k bit)

pub returns-clause-masks : goal.returns-clause-masks
unfolding with_one
returns-clause-masks c =
    let s = c.put_unless.ensures.shape _ _ c.requires.place.2 in
    three_bits c.args.rows.now c.put_unless.new.rows c.put_unless-2.new.rows c.put_unless-3.new.rows c.args.others c.requires.place.0 c.args.x c.args.k c.args.inv c.requires.typ c.requires.place.1
    c.requires.place.2 s (c.put_unless-2.ensures.shape _ _ s)
    (c.put_unless.ensures.rows ∙ ap₂ (with_one c.args.rows.now c.args.k) c.enters_row.ensures c.enters.ensures)
    (c.put_unless-2.ensures.rows ∙ ap₂ (with_one c.put_unless.new.rows c.args.k) c.stays_row.ensures c.stays.ensures)
    (c.put_unless-3.ensures.rows ∙ ap₂ (with_one c.put_unless-2.new.rows c.args.k) c.falls_row.ensures c.falls.ensures)

pub returns-clause-shape : goal.returns-clause-shape
returns-clause-shape c = λ rows bits s. c.put_unless-3.ensures.shape rows bits (c.put_unless-2.ensures.shape rows bits (c.put_unless.ensures.shape rows bits s))
