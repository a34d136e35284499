use Rattle.std.proofs.Common.{length, refl, sym, ap, arith}
use Rattle.std.proofs.lemmas.Bool.{eq-eqb, eqb-true}
use Rattle.bit_rows.proofs.Done.{row_room, none_held, no_set, blank_all}
use Rattle.bit_rows.proofs.rows.Rows.is_zero.Goals as goal

pub overflow_mul-start : goal.overflow_mul-start
overflow_mul-start c = record { fits = omega (arith, row_room _ c.self.inside.words.items c.self.inside.width c.self.inside.rows c.self.inside.bits c.args.r (sym c.self.view_is) c.requires, c.self.invariant.1, c.self.inside.words.small) }

pub overflow_add-start : goal.overflow_add-start
overflow_add-start c = record { fits = omega (arith, row_room _ c.self.inside.words.items c.self.inside.width c.self.inside.rows c.self.inside.bits c.args.r (sym c.self.view_is) c.requires, c.self.invariant.1, c.self.inside.words.small) }

pub returns-then-start-self : goal.returns-then-start-self
returns-then-start-self c = (λ whole. none_held c.args.self.now c.self.inside.words.items c.self.inside.width c.self.inside.rows c.self.inside.bits c.args.r (sym c.self.view_is) c.self.invariant.0 c.requires (omega (arith, c.if-start-self.true, ap length c.as_slice-words.ensures.value)), λ blank. refl)

pub first_word-requires : goal.first_word-requires
first_word-requires c = omega (arith, c.if-start-self.false, ap length c.as_slice-words.ensures.value)

pub returns : goal.returns
returns c = (
  λ whole. no_set _ c.self.inside.words.items c.as_slice-words.result.now c.self.inside.width c.self.inside.rows c.self.inside.bits c.args.r c.first_word.result (sym c.self.view_is) c.self.invariant.0
      c.as_slice-words.ensures.value c.requires c.first_word.ensures.before (eqb-true _ _ whole),
  λ blank. eq-eqb _ _ (blank_all _ c.self.inside.words.items c.as_slice-words.result.now c.self.inside.width c.self.inside.rows c.self.inside.bits c.args.r c.first_word.result (sym c.self.view_is) c.self.invariant.0
      c.as_slice-words.ensures.value c.requires c.first_word.ensures.before c.first_word.ensures.within c.first_word.ensures.found c.first_word.ensures.fits blank),
)
