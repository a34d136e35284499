use Rattle.std.proofs.Common.{◌+◌, ◌*◌, ◌/◌, ◌%◌, eqb, get_or, sym, ap, ◌∙◌, arith}
use Rattle.std.proofs.lemmas.Nat.{div_below}
use Rattle.std.specs.Int.{bit_at}
use Rattle.bit_rows.proofs.Done.{row_room, place_wide, source}
use Rattle.bit_rows.proofs.rows.Rows.get.Goals as goal

pub overflow_mul-place : goal.overflow_mul-place
overflow_mul-place c = record { fits = omega (arith, row_room _ c.self.inside.words.items c.self.inside.width c.self.inside.rows c.self.inside.bits c.args.r (sym c.self.view_is) c.requires.row, c.self.invariant.1, c.self.inside.words.small) }

pub overflow_add-place : goal.overflow_add-place
overflow_add-place c =
    let wide = place_wide _ c.self.inside.words.items c.self.inside.width c.self.inside.rows c.self.inside.bits c.args.r c.args.i (sym c.self.view_is) c.self.invariant.0 c.requires.row c.requires.place in
    let small = div_below c.args.i 64 c.self.inside.width (omega arith) wide in
    record { fits = omega (arith, small, row_room _ c.self.inside.words.items c.self.inside.width c.self.inside.rows c.self.inside.bits c.args.r (sym c.self.view_is) c.requires.row, c.self.invariant.1, c.self.inside.words.small) }

pub returns : goal.returns
returns c =
    let wide = place_wide _ c.self.inside.words.items c.self.inside.width c.self.inside.rows c.self.inside.bits c.args.r c.args.i (sym c.self.view_is) c.self.invariant.0 c.requires.row c.requires.place in
    c.has_bit.ensures
    ∙ ap (λ x. eqb (bit_at x (c.args.i % 64)) 1) (c.word_at.ensures ∙ ap (λ l. get_or l (c.args.r * c.self.inside.width + c.args.i / 64) 0) c.as_slice.ensures.value)
    ∙ source _ c.self.inside.words.items c.self.inside.width c.self.inside.rows c.self.inside.bits c.args.r c.args.i (sym c.self.view_is) c.self.invariant.0 c.requires.row wide
