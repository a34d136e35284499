use Rattle.std.proofs.Common.{sym, refl, ap, ◌∙◌, ◌/◌, ◌*◌, ◌+◌, ◌<◌, length, set, arith}
use Rattle.std.proofs.lemmas.List.{get_or_read}
use Rattle.std.proofs.lemmas.Nat.{div_below}
use Rattle.std.specs.Int.{bit_at}
use Rattle.bit_rows.specs.Tables.{row_at}
use Rattle.bit_rows.proofs.Tabled.{HoldsTo, holds_to}
use Rattle.bit_rows.proofs.Done.{IsDone, row_room, place_wide, put_done}
use Rattle.bit_rows.proofs.rows.Rows.put.Goals as goal
use Rattle.bit_rows.proofs.rows.Rows.put.Goals.{After-reach, After-with_bit}

holds : (c : After-reach) → HoldsTo c.args.self.now c.reach.new.words.items c.self.inside.width c.self.inside.rows c.self.inside.bits c.args.r
holds c = holds_to c.args.self.now c.self.inside.words.items c.reach.new.words.items c.self.inside.width c.self.inside.rows c.self.inside.bits c.args.r (sym c.self.view_is) c.self.invariant.0 c.reach.ensures.reached

inside : (c : After-reach) → c.args.i / 64 < c.self.inside.width
inside c = div_below c.args.i 64 c.self.inside.width (omega arith) (place_wide c.args.self.now c.self.inside.words.items c.self.inside.width c.self.inside.rows c.self.inside.bits c.args.r c.args.i (sym c.self.view_is) c.self.invariant.0 c.requires.row c.requires.place)

place_in : (c : After-reach) → c.args.r * c.self.inside.width + c.args.i / 64 < length c.reach.new.words.items
place_in c = omega (arith, inside c, (holds c).held c.args.r (omega arith))

done : (c : After-with_bit) → c.args.r * c.self.inside.width + c.args.i / 64 < length c.reach.new.words.items → IsDone c.args.self.now c.self.inside.width c.self.inside.rows c.self.inside.bits c.args.r (set (row_at c.args.self.now c.args.r) c.args.i c.args.on) (set c.reach.new.words.items (c.args.r * c.self.inside.width + c.args.i / 64) c.with_bit.result)
done c room =
    let h = holds_to c.args.self.now c.self.inside.words.items c.reach.new.words.items c.self.inside.width c.self.inside.rows c.self.inside.bits c.args.r (sym c.self.view_is) c.self.invariant.0 c.reach.ensures.reached in
    let read = get_or_read c.reach.new.words.items _ _ room c.index.ensures 0 in
    put_done c.args.self.now c.reach.new.words.items _ c.self.inside.width c.self.inside.rows c.self.inside.bits c.args.r c.args.i c.with_bit.result c.args.on h.seen h.laid (h.held c.args.r (omega arith)) refl c.requires.row c.requires.place
    c.with_bit.ensures.there (λ j below ne. c.with_bit.ensures.others j below ne ∙ ap (λ x. bit_at x j) read)

pub reach-requires : goal.reach-requires
reach-requires c = omega (arith, row_room _ c.self.inside.words.items c.self.inside.width c.self.inside.rows c.self.inside.bits c.args.r (sym c.self.view_is) c.requires.row, c.self.invariant.1)

pub overflow_mul-place : goal.overflow_mul-place
overflow_mul-place c = record { fits = omega (arith, row_room _ c.self.inside.words.items c.self.inside.width c.self.inside.rows c.self.inside.bits c.args.r (sym c.self.view_is) c.requires.row, c.self.invariant.1, c.self.inside.words.small) }

pub overflow_add-place : goal.overflow_add-place
overflow_add-place c = record { fits = omega (arith, place_in (goal.at.overflow_add-place c).After-reach, c.reach.new.words.ok, c.reach.new.words.small) }

pub index-requires : goal.index-requires
index-requires c = omega (arith, place_in (goal.at.index-requires c).After-reach, c.reach.new.words.ok)

pub index_mut-requires : goal.index_mut-requires
index_mut-requires c = omega (arith, place_in (goal.at.index_mut-requires c).After-reach, c.reach.new.words.ok)

pub invariant_of-self : goal.invariant_of-self
invariant_of-self c = ((done (goal.at.invariant_of-self c).After-with_bit (place_in (goal.at.invariant_of-self c).After-reach)).laid, omega (arith, c.reach.ensures.capacity, c.self.invariant.1))

pub returns-clause-rows : goal.returns-clause-rows
returns-clause-rows c = (done (goal.at.returns-clause-rows c).After-with_bit (place_in (goal.at.returns-clause-rows c).After-reach)).table

pub returns-clause-shape : goal.returns-clause-shape
returns-clause-shape c = (done (goal.at.returns-clause-shape c).After-with_bit (place_in (goal.at.returns-clause-shape c).After-reach)).shape
