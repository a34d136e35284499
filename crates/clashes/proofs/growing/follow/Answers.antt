use Rattle.std.proofs.Common.{Bool, false, get_or, arith, refl, sym, subst, inl, inr, true≢false}
use Rattle.clashes.specs.Changes.{TellsGrowth}
use Rattle.clashes.proofs.Noting.{noted_at_both, none_of_four}
use Rattle.clashes.proofs.growing.follow.Goals as goal

pub returns-then-not-recent-from-clause-followed : goal.returns-then-not-recent-from-clause-followed
returns-then-not-recent-from-clause-followed c =
    let still = none_of_four (get_or c.args.recent.now c.args.link.from false) (get_or c.args.recent.now c.args.link.to false) (get_or c.args.now.now c.args.link.from false) (get_or c.args.now.now c.args.link.to false)
    c.if-not-recent-from.true in
    record { new_or_still = inr (refl, still.0, still.1, still.2, still.3) }

pub returns-then-not-recent-from-clause-tells : goal.returns-then-not-recent-from-clause-tells
returns-then-not-recent-from-clause-tells c = record { same = λ e. refl; fewer = λ e. absurd (true≢false (sym e)) }

pub returns-then-not-follow-clause-followed : goal.returns-then-not-follow-clause-followed
returns-then-not-follow-clause-followed c = record { new_or_still = inl c.follow.ensures.marks }

pub returns-then-not-follow-clause-tells : goal.returns-then-not-follow-clause-tells
returns-then-not-follow-clause-tells c = subst (λ (b : Bool). TellsGrowth c.args.mark_rows.now c.follow.new.self b) c.if-not-follow.true c.follow.ensures.tells

pub returns-clause-followed : goal.returns-clause-followed
returns-clause-followed c = record { new_or_still = inl c.follow.ensures.marks }

pub returns-clause-tells : goal.returns-clause-tells
returns-clause-tells c = subst (λ (b : Bool). TellsGrowth c.args.mark_rows.now c.follow.new.self b) c.if-not-follow.false c.follow.ensures.tells

pub returns-clause-noted : goal.returns-clause-noted
returns-clause-noted c = λ e. noted_at_both c.args.now.now c.args.link.from c.args.link.to (omega (arith, c.requires.ids.0, c.requires.now_room)) (omega (arith, c.requires.ids.1, c.requires.now_room))
