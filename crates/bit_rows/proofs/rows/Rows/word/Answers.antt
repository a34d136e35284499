use Rattle.std.proofs.Common.{◌+◌, ◌*◌, ◌<◌, eqb, get_or, refl, sym, ap, ◌∙◌, arith}
use Rattle.std.specs.Int.{bit_at}
use Rattle.bit_rows.proofs.Done.{row_room, row_long}
use Rattle.bit_rows.proofs.Next.{from_word}
use Rattle.bit_rows.proofs.rows.Rows.word.Goals as goal
use Rattle.bit_rows.proofs.rows.Rows.word.Goals.{After-self}

inside : (c : After-self) → c.args.place < c.self.inside.width
inside c = omega (arith, row_long _ c.self.inside.words.items c.self.inside.width c.self.inside.rows c.self.inside.bits c.args.r (sym c.self.view_is) c.requires.row, c.requires.place, c.self.invariant.0.room)

pub overflow_mul-r : goal.overflow_mul-r
overflow_mul-r c = record { fits = omega (arith, row_room _ c.self.inside.words.items c.self.inside.width c.self.inside.rows c.self.inside.bits c.args.r (sym c.self.view_is) c.requires.row, c.self.invariant.1, c.self.inside.words.small) }

pub overflow_add-r : goal.overflow_add-r
overflow_add-r c = record { fits = omega (arith, row_room _ c.self.inside.words.items c.self.inside.width c.self.inside.rows c.self.inside.bits c.args.r (sym c.self.view_is) c.requires.row, inside (goal.at.overflow_add-r c).After-self, c.self.invariant.1, c.self.inside.words.small) }

pub returns : goal.returns
returns c i below =
    ap (λ x. eqb (bit_at x i) 1) (c.word_at.ensures ∙ ap (λ l. get_or l (c.args.r * c.self.inside.width + c.args.place) 0) c.as_slice.ensures.value)
    ∙ from_word _ c.self.inside.words.items c.self.inside.words.items c.self.inside.width c.self.inside.rows c.self.inside.bits c.args.r 0 (sym c.self.view_is) c.self.invariant.0 refl c.requires.row c.args.place i (inside (goal.at.returns c).After-self) below
