use Rattle.std.proofs.Common.{◌≡◌, ℕ, List, length, replicate, false, sym, ap, ◌∙◌, arith}
use Rattle.std.proofs.lemmas.List.{with_items_is}
use Rattle.bit_rows.specs.Tables.{row_at}
use Rattle.bit_rows.proofs.Done.{IsDone, row_room, none_held, cleared_same, clear_done}
use Rattle.bit_rows.proofs.rows.Rows.clear.Goals as goal
use Rattle.bit_rows.proofs.rows.Rows.clear.Goals.{After-clear_words}

done : (c : After-clear_words) (final : List ℕ) → final ≡ c.clear_words.new.words → IsDone c.args.self.now c.self.inside.width c.self.inside.rows c.self.inside.bits c.args.r (replicate (length (row_at c.args.self.now c.args.r)) false) final
done c final kept =
    clear_done c.args.self.now c.self.inside.words.items c.as_mut_slice.result.now c.clear_words.new.words final c.self.inside.width c.self.inside.rows c.self.inside.bits c.args.r (sym c.self.view_is) c.self.invariant.0 c.as_mut_slice.ensures.value
    kept c.requires c.clear_words.ensures

pub overflow_mul-start : goal.overflow_mul-start
overflow_mul-start c = record { fits = omega (arith, row_room _ c.self.inside.words.items c.self.inside.width c.self.inside.rows c.self.inside.bits c.args.r (sym c.self.view_is) c.requires, c.self.invariant.1, c.self.inside.words.small) }

pub overflow_add-start : goal.overflow_add-start
overflow_add-start c = record { fits = omega (arith, row_room _ c.self.inside.words.items c.self.inside.width c.self.inside.rows c.self.inside.bits c.args.r (sym c.self.view_is) c.requires, c.self.invariant.1, c.self.inside.words.small) }

pub returns-then-start-self-clause-rows : goal.returns-then-start-self-clause-rows
returns-then-start-self-clause-rows c =
    cleared_same c.args.self.now c.args.r (none_held c.args.self.now c.self.inside.words.items c.self.inside.width c.self.inside.rows c.self.inside.bits c.args.r (sym c.self.view_is) c.self.invariant.0 c.requires (omega (arith, c.if-start-self.true, c.self.inside.words.ok)))

pub clear_words-requires : goal.clear_words-requires
clear_words-requires c = omega (arith, c.if-start-self.false, c.self.inside.words.ok, ap length c.as_mut_slice.ensures.value)

pub invariant_of-self : goal.invariant_of-self
invariant_of-self c = ((done (goal.at.invariant_of-self c).After-clear_words _ (with_items_is c.self.inside.words c.clear_words.new.words (c.clear_words.ensures.size ∙ ap length c.as_mut_slice.ensures.value ∙ sym c.self.inside.words.ok.0))).laid, c.self.invariant.1)

pub returns-clause-rows : goal.returns-clause-rows
returns-clause-rows c = (done (goal.at.returns-clause-rows c).After-clear_words _ (with_items_is c.self.inside.words c.clear_words.new.words (c.clear_words.ensures.size ∙ ap length c.as_mut_slice.ensures.value ∙ sym c.self.inside.words.ok.0))).table

pub returns-clause-shape : goal.returns-clause-shape
returns-clause-shape c = (done (goal.at.returns-clause-shape c).After-clear_words _ (with_items_is c.self.inside.words c.clear_words.new.words (c.clear_words.ensures.size ∙ ap length c.as_mut_slice.ensures.value ∙ sym c.self.inside.words.ok.0))).shape
