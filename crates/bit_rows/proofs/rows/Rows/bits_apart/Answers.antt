use Rattle.std.proofs.Common.{◌+◌, ◌*◌, ◌≤◌, sym, arith}
use Rattle.bit_rows.proofs.Apart.{no-common}
use Rattle.bit_rows.proofs.Done.{row_room, row_long}
use Rattle.bit_rows.proofs.rows.Rows.bits_apart.Goals as goal
use Rattle.bit_rows.proofs.rows.Rows.bits_apart.Goals.{After-apart_blocks-blocks, After-max-last}

room : (c : After-max-last) → c.max-last.result * c.self.inside.width + c.self.inside.width ≤ c.self.inside.rows * c.self.inside.width
room c = row_room _ c.self.inside.words.items c.self.inside.width c.self.inside.rows c.self.inside.bits c.max-last.result (sym c.self.view_is) (omega (arith, c.requires.a_row, c.requires.b_row, c.requires.c_row, c.requires.d_row))

few : (c : After-apart_blocks-blocks) → c.apart_blocks-blocks.result * 512 ≤ c.self.inside.bits
few c = omega (arith, c.apart_blocks-blocks.ensures.within)

pub overflow_mul-last : goal.overflow_mul-last
overflow_mul-last c = record { fits = omega (arith, room (goal.at.overflow_mul-last c).After-max-last, c.self.invariant.1, c.self.inside.words.small) }

pub overflow_add-last : goal.overflow_add-last
overflow_add-last c = record { fits = omega (arith, room (goal.at.overflow_add-last c).After-max-last, c.self.invariant.1, c.self.inside.words.small) }

pub returns-clause-within : goal.returns-clause-within
returns-clause-within c =
    omega (arith, few (goal.at.returns-clause-within c).After-apart_blocks-blocks, row_long _ c.self.inside.words.items c.self.inside.width c.self.inside.rows c.self.inside.bits c.args.a (sym c.self.view_is) c.requires.a_row)

pub returns-clause-apart : goal.returns-clause-apart
returns-clause-apart c =
    no-common c.args.self.now c.self.inside.words.items c.as_slice-words.result.now c.self.inside.width c.self.inside.rows c.self.inside.bits c.args.a c.args.b c.args.c c.args.d c.apart_blocks-blocks.result (sym c.self.view_is) c.self.invariant.0
    c.as_slice-words.ensures.value c.requires.a_row c.requires.b_row c.requires.c_row c.requires.d_row (few (goal.at.returns-clause-apart c).After-apart_blocks-blocks) c.apart_blocks-blocks.ensures.before
