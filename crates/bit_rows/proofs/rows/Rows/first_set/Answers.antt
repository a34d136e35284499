use Rattle.std.proofs.Common.{◌<◌, length, sym, ap, arith}
use Rattle.bit_rows.proofs.Done.{row_room, row_long, none_held, no_set, set_first}
use Rattle.bit_rows.proofs.rows.Rows.first_set.Goals as goal

pub overflow_mul-start : goal.overflow_mul-start
overflow_mul-start c = record { fits = omega (arith, row_room _ c.self.inside.words.items c.self.inside.width c.self.inside.rows c.self.inside.bits c.args.r (sym c.self.view_is) c.requires, c.self.invariant.1, c.self.inside.words.small) }

pub overflow_add-start : goal.overflow_add-start
overflow_add-start c = record { fits = omega (arith, row_room _ c.self.inside.words.items c.self.inside.width c.self.inside.rows c.self.inside.bits c.args.r (sym c.self.view_is) c.requires, c.self.invariant.1, c.self.inside.words.small) }

pub returns-then-start-self : goal.returns-then-start-self
returns-then-start-self c = none_held c.args.self.now c.self.inside.words.items c.self.inside.width c.self.inside.rows c.self.inside.bits c.args.r (sym c.self.view_is) c.self.invariant.0 c.requires (omega (arith, c.if-start-self.true, ap length c.as_slice-words.ensures.value))

pub first_word-k-requires : goal.first_word-k-requires
first_word-k-requires c = omega (arith, c.if-start-self.false, ap length c.as_slice-words.ensures.value)

pub returns-then-k-self : goal.returns-then-k-self
returns-then-k-self c =
    no_set _ c.self.inside.words.items c.as_slice-words.result.now c.self.inside.width c.self.inside.rows c.self.inside.bits c.args.r c.first_word-k.result (sym c.self.view_is) c.self.invariant.0
    c.as_slice-words.ensures.value c.requires c.first_word-k.ensures.before c.if-k-self.true

pub overflow_mul-result : goal.overflow_mul-result
overflow_mul-result c =
    let below : c.first_word-k.result < c.self.inside.width = omega (arith, c.first_word-k.ensures.within, c.if-k-self.false) in
    let first = set_first _ c.self.inside.words.items c.as_slice-words.result.now c.self.inside.width c.self.inside.rows c.self.inside.bits c.args.r c.first_word-k.result (sym c.self.view_is) c.self.invariant.0
    c.as_slice-words.ensures.value c.requires c.first_word-k.ensures.before below (c.first_word-k.ensures.found below) c.first_word-k.ensures.fits in
    let long = row_long _ c.self.inside.words.items c.self.inside.width c.self.inside.rows c.self.inside.bits c.args.r (sym c.self.view_is) c.requires in
    record { fits = omega (arith, first.within, long, c.self.invariant.0.limit) }

pub overflow_add-result-2 : goal.overflow_add-result-2
overflow_add-result-2 c =
    let below : c.first_word-k.result < c.self.inside.width = omega (arith, c.first_word-k.ensures.within, c.if-k-self.false) in
    let first = set_first _ c.self.inside.words.items c.as_slice-words.result.now c.self.inside.width c.self.inside.rows c.self.inside.bits c.args.r c.first_word-k.result (sym c.self.view_is) c.self.invariant.0
    c.as_slice-words.ensures.value c.requires c.first_word-k.ensures.before below (c.first_word-k.ensures.found below) c.first_word-k.ensures.fits in
    let long = row_long _ c.self.inside.words.items c.self.inside.width c.self.inside.rows c.self.inside.bits c.args.r (sym c.self.view_is) c.requires in
    record { fits = omega (arith, first.within, long, c.self.invariant.0.limit) }

pub returns : goal.returns
returns c =
    let below : c.first_word-k.result < c.self.inside.width = omega (arith, c.first_word-k.ensures.within, c.if-k-self.false) in
    let first = set_first _ c.self.inside.words.items c.as_slice-words.result.now c.self.inside.width c.self.inside.rows c.self.inside.bits c.args.r c.first_word-k.result (sym c.self.view_is) c.self.invariant.0
    c.as_slice-words.ensures.value c.requires c.first_word-k.ensures.before below (c.first_word-k.ensures.found below) c.first_word-k.ensures.fits in
    first
