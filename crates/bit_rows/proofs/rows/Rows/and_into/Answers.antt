use Rattle.std.proofs.Common.{◌≡◌, ℕ, List, length, sym, ap, ◌∙◌, arith}
use Rattle.std.proofs.lemmas.List.{with_items_is}
use Rattle.bit_rows.specs.Tables.{row_at, both}
use Rattle.bit_rows.proofs.Tabled.{HoldsTo, holds_to, rows_apart}
use Rattle.bit_rows.proofs.Done.{IsDone, row_room, and_done}
use Rattle.bit_rows.proofs.rows.Rows.and_into.Goals as goal
use Rattle.bit_rows.proofs.rows.Rows.and_into.Goals.{After-reach, After-and_words}

holds : (c : After-reach) → HoldsTo c.args.self.now c.reach.new.words.items c.self.inside.width c.self.inside.rows c.self.inside.bits c.max.result
holds c = holds_to c.args.self.now c.self.inside.words.items c.reach.new.words.items c.self.inside.width c.self.inside.rows c.self.inside.bits c.max.result (sym c.self.view_is) c.self.invariant.0 c.reach.ensures.reached

done : (c : After-and_words) (final : List ℕ) → final ≡ c.and_words.new.words → IsDone c.args.self.now c.self.inside.width c.self.inside.rows c.self.inside.bits c.args.to (both (row_at c.args.self.now c.args.to) (row_at c.args.self.now c.args.from)) final
done c final kept =
    let h = holds_to c.args.self.now c.self.inside.words.items c.reach.new.words.items c.self.inside.width c.self.inside.rows c.self.inside.bits c.max.result (sym c.self.view_is) c.self.invariant.0 c.reach.ensures.reached in
    and_done c.args.self.now c.reach.new.words.items c.as_mut_slice.result.now c.and_words.new.words final c.self.inside.width c.self.inside.rows c.self.inside.bits c.args.to h.seen h.laid c.as_mut_slice.ensures.value
    kept c.requires.to_row c.args.from c.requires.from_row c.and_words.ensures

pub reach-requires : goal.reach-requires
reach-requires c = omega (arith, row_room _ c.self.inside.words.items c.self.inside.width c.self.inside.rows c.self.inside.bits c.max.result (sym c.self.view_is) (omega (arith, c.requires.to_row, c.requires.from_row)), c.self.invariant.1)

pub overflow_mul-to : goal.overflow_mul-to
overflow_mul-to c = record { fits = omega (arith, row_room _ c.self.inside.words.items c.self.inside.width c.self.inside.rows c.self.inside.bits c.args.to (sym c.self.view_is) c.requires.to_row, c.self.invariant.1, c.self.inside.words.small) }

pub and_words-requires-clause-to_in : goal.and_words-requires-clause-to_in
and_words-requires-clause-to_in c = omega (arith, (holds (goal.at.and_words-requires-clause-to_in c).After-reach).held c.args.to (omega arith), ap length c.as_mut_slice.ensures.value)

pub overflow_mul-from : goal.overflow_mul-from
overflow_mul-from c = record { fits = omega (arith, row_room _ c.self.inside.words.items c.self.inside.width c.self.inside.rows c.self.inside.bits c.args.from (sym c.self.view_is) c.requires.from_row, c.self.invariant.1, c.self.inside.words.small) }

pub and_words-requires-clause-from_in : goal.and_words-requires-clause-from_in
and_words-requires-clause-from_in c = omega (arith, (holds (goal.at.and_words-requires-clause-from_in c).After-reach).held c.args.from (omega arith), ap length c.as_mut_slice.ensures.value)

pub and_words-requires-clause-apart : goal.and_words-requires-clause-apart
and_words-requires-clause-apart c = rows_apart c.args.to c.args.from c.self.inside.width c.requires.apart

pub invariant_of-self : goal.invariant_of-self
invariant_of-self c = ((done (goal.at.invariant_of-self c).After-and_words _ (with_items_is c.reach.new.words c.and_words.new.words (c.and_words.ensures.size ∙ ap length c.as_mut_slice.ensures.value ∙ sym c.reach.new.words.ok.0))).laid, omega (arith, c.reach.ensures.capacity, c.self.invariant.1))

pub returns-clause-rows : goal.returns-clause-rows
returns-clause-rows c = (done (goal.at.returns-clause-rows c).After-and_words _ (with_items_is c.reach.new.words c.and_words.new.words (c.and_words.ensures.size ∙ ap length c.as_mut_slice.ensures.value ∙ sym c.reach.new.words.ok.0))).table

pub returns-clause-shape : goal.returns-clause-shape
returns-clause-shape c = (done (goal.at.returns-clause-shape c).After-and_words _ (with_items_is c.reach.new.words c.and_words.new.words (c.and_words.ensures.size ∙ ap length c.as_mut_slice.ensures.value ∙ sym c.reach.new.words.ok.0))).shape
