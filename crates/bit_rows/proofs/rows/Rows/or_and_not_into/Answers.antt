use Rattle.std.proofs.Common.{◌≡◌, ℕ, List, length, sym, ap, ◌∙◌, arith}
use Rattle.std.proofs.lemmas.List.{with_items_is}
use Rattle.std.proofs.lemmas.Bool.{OnTrue_from, OnFalse_from}
use Rattle.bit_rows.specs.Tables.{row_at, either, without}
use Rattle.bit_rows.proofs.Tabled.{HoldsTo, holds_to, rows_apart}
use Rattle.bit_rows.proofs.Done.{IsDone, row_room, or_and_not_done, told_none, told_some}
use Rattle.bit_rows.proofs.rows.Rows.or_and_not_into.Goals as goal
use Rattle.bit_rows.proofs.rows.Rows.or_and_not_into.Goals.{After-reach, After-or_and_not_words}

holds : (c : After-reach) → HoldsTo c.args.self.now c.reach.new.words.items c.self.inside.width c.self.inside.rows c.self.inside.bits c.max-2.result
holds c = holds_to c.args.self.now c.self.inside.words.items c.reach.new.words.items c.self.inside.width c.self.inside.rows c.self.inside.bits c.max-2.result (sym c.self.view_is) c.self.invariant.0 c.reach.ensures.reached

done : (c : After-or_and_not_words) (final : List ℕ) → final ≡ c.or_and_not_words.new.words → IsDone c.args.self.now c.self.inside.width c.self.inside.rows c.self.inside.bits c.args.to (either (row_at c.args.self.now c.args.to) (without (row_at c.args.self.now c.args.a) (row_at c.args.self.now c.args.mask))) final
done c final kept =
    let h = holds_to c.args.self.now c.self.inside.words.items c.reach.new.words.items c.self.inside.width c.self.inside.rows c.self.inside.bits c.max-2.result (sym c.self.view_is) c.self.invariant.0 c.reach.ensures.reached in
    or_and_not_done c.args.self.now c.reach.new.words.items c.as_mut_slice.result.now c.or_and_not_words.new.words final c.self.inside.width c.self.inside.rows c.self.inside.bits c.args.to h.seen h.laid c.as_mut_slice.ensures.value
    kept c.requires.to_row c.args.a c.args.mask c.requires.a_row c.requires.mask_row c.or_and_not_words.ensures.fits.0 c.or_and_not_words.ensures.written

pub reach-requires : goal.reach-requires
reach-requires c = omega (arith, row_room _ c.self.inside.words.items c.self.inside.width c.self.inside.rows c.self.inside.bits c.max-2.result (sym c.self.view_is) (omega (arith, c.requires.to_row, c.requires.a_row, c.requires.mask_row)), c.self.invariant.1)

pub overflow_mul-to : goal.overflow_mul-to
overflow_mul-to c = record { fits = omega (arith, row_room _ c.self.inside.words.items c.self.inside.width c.self.inside.rows c.self.inside.bits c.args.to (sym c.self.view_is) c.requires.to_row, c.self.invariant.1, c.self.inside.words.small) }

pub or_and_not_words-requires-clause-to_in : goal.or_and_not_words-requires-clause-to_in
or_and_not_words-requires-clause-to_in c = omega (arith, (holds (goal.at.or_and_not_words-requires-clause-to_in c).After-reach).held c.args.to (omega arith), ap length c.as_mut_slice.ensures.value)

pub overflow_mul-a : goal.overflow_mul-a
overflow_mul-a c = record { fits = omega (arith, row_room _ c.self.inside.words.items c.self.inside.width c.self.inside.rows c.self.inside.bits c.args.a (sym c.self.view_is) c.requires.a_row, c.self.invariant.1, c.self.inside.words.small) }

pub or_and_not_words-requires-clause-a_in : goal.or_and_not_words-requires-clause-a_in
or_and_not_words-requires-clause-a_in c = omega (arith, (holds (goal.at.or_and_not_words-requires-clause-a_in c).After-reach).held c.args.a (omega arith), ap length c.as_mut_slice.ensures.value)

pub overflow_mul-mask : goal.overflow_mul-mask
overflow_mul-mask c = record { fits = omega (arith, row_room _ c.self.inside.words.items c.self.inside.width c.self.inside.rows c.self.inside.bits c.args.mask (sym c.self.view_is) c.requires.mask_row, c.self.invariant.1, c.self.inside.words.small) }

pub or_and_not_words-requires-clause-mask_in : goal.or_and_not_words-requires-clause-mask_in
or_and_not_words-requires-clause-mask_in c = omega (arith, (holds (goal.at.or_and_not_words-requires-clause-mask_in c).After-reach).held c.args.mask (omega arith), ap length c.as_mut_slice.ensures.value)

pub or_and_not_words-requires-clause-a_apart : goal.or_and_not_words-requires-clause-a_apart
or_and_not_words-requires-clause-a_apart c = rows_apart c.args.to c.args.a c.self.inside.width c.requires.a_apart

pub or_and_not_words-requires-clause-mask_apart : goal.or_and_not_words-requires-clause-mask_apart
or_and_not_words-requires-clause-mask_apart c = rows_apart c.args.to c.args.mask c.self.inside.width c.requires.mask_apart

pub invariant_of-self : goal.invariant_of-self
invariant_of-self c = ((done (goal.at.invariant_of-self c).After-or_and_not_words _ (with_items_is c.reach.new.words c.or_and_not_words.new.words (c.or_and_not_words.ensures.written.size ∙ ap length c.as_mut_slice.ensures.value ∙ sym c.reach.new.words.ok.0))).laid, omega (arith, c.reach.ensures.capacity, c.self.invariant.1))

pub returns-clause-rows : goal.returns-clause-rows
returns-clause-rows c = (done (goal.at.returns-clause-rows c).After-or_and_not_words _ (with_items_is c.reach.new.words c.or_and_not_words.new.words (c.or_and_not_words.ensures.written.size ∙ ap length c.as_mut_slice.ensures.value ∙ sym c.reach.new.words.ok.0))).table

pub returns-clause-shape : goal.returns-clause-shape
returns-clause-shape c = (done (goal.at.returns-clause-shape c).After-or_and_not_words _ (with_items_is c.reach.new.words c.or_and_not_words.new.words (c.or_and_not_words.ensures.written.size ∙ ap length c.as_mut_slice.ensures.value ∙ sym c.reach.new.words.ok.0))).shape

pub returns-clause-stays : goal.returns-clause-stays
returns-clause-stays c =
    let h = holds_to c.args.self.now c.self.inside.words.items c.reach.new.words.items c.self.inside.width c.self.inside.rows c.self.inside.bits c.max-2.result (sym c.self.view_is) c.self.invariant.0 c.reach.ensures.reached in
    OnFalse_from _ _ (λ off. told_none c.args.self.now c.reach.new.words.items c.as_mut_slice.result.now c.or_and_not_words.new.words _ c.self.inside.width c.self.inside.rows c.self.inside.bits c.args.to h.seen h.laid c.as_mut_slice.ensures.value
    (with_items_is c.reach.new.words c.or_and_not_words.new.words (c.or_and_not_words.ensures.written.size ∙ ap length c.as_mut_slice.ensures.value ∙ sym c.reach.new.words.ok.0)) c.requires.to_row _ c.or_and_not_words.result c.or_and_not_words.ensures.written c.or_and_not_words.ensures.tells off)

pub returns-clause-changes : goal.returns-clause-changes
returns-clause-changes c =
    let h = holds_to c.args.self.now c.self.inside.words.items c.reach.new.words.items c.self.inside.width c.self.inside.rows c.self.inside.bits c.max-2.result (sym c.self.view_is) c.self.invariant.0 c.reach.ensures.reached in
    OnTrue_from _ _ (λ on. told_some c.args.self.now c.reach.new.words.items c.as_mut_slice.result.now c.or_and_not_words.new.words _ c.self.inside.width c.self.inside.rows c.self.inside.bits c.args.to h.seen h.laid c.as_mut_slice.ensures.value
    (with_items_is c.reach.new.words c.or_and_not_words.new.words (c.or_and_not_words.ensures.written.size ∙ ap length c.as_mut_slice.ensures.value ∙ sym c.reach.new.words.ok.0)) c.requires.to_row _ c.or_and_not_words.result c.or_and_not_words.ensures.written (done (goal.at.returns-clause-changes c).After-or_and_not_words _ (with_items_is c.reach.new.words c.or_and_not_words.new.words (c.or_and_not_words.ensures.written.size ∙ ap length c.as_mut_slice.ensures.value ∙ sym c.reach.new.words.ok.0))).laid c.or_and_not_words.ensures.fits.0 c.or_and_not_words.ensures.fits.1 c.or_and_not_words.ensures.tells on)
