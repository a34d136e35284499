use Rattle.std.proofs.Common.{ℕ, subst₂, arith}
use Rattle.partition_model.specs.Assignments.{G}
use Rattle.coarsener.specs.Pairs.{HasNoPairBehind, IsNextPair}
use Rattle.coarsener.proofs.BlockingTurns.{no-pair, some-pair, only-pair, two-pairs}
use Rattle.coarsener.proofs.telling.tell_losses.Goals as goal

pub returns-in_default-clause-limit : goal.returns-in_default-clause-limit
returns-in_default-clause-limit g c some =
    absurd (no-pair c.args.graph.now c.in_default.ensures.ids
    (subst₂ (λ (p q : ℕ). HasNoPairBehind (G c.args.graph.now.traces) p q) c.start.ensures.p c.start.ensures.q c.in_default.ensures.next) some)

pub returns-then-is_none-clause-tells : goal.returns-then-is_none-clause-tells
returns-then-is_none-clause-tells g c =
    only-pair c.label_all.new.self (G c.args.graph.now.traces) c.in-Some.first.p c.in-Some.first.q c.next_pair-2.result
    (subst₂ (λ (p q : ℕ). IsNextPair (G c.args.graph.now.traces) p q c.in-Some.first.p c.in-Some.first.q) c.start.ensures.p c.start.ensures.q c.in-Some.ensures.next)
    c.if-is_none.ensures c.next_pair-2.ensures.next c.label_all.ensures.labels

pub returns-then-is_none-clause-few : goal.returns-then-is_none-clause-few
returns-then-is_none-clause-few g c =
    omega (
      arith,
      c.label_all.ensures.counted,
      some-pair c.args.graph.now c.in-Some.first.p c.in-Some.first.q c.in-Some.ensures.ids
          (subst₂ (λ (p q : ℕ). IsNextPair (G c.args.graph.now.traces) p q c.in-Some.first.p c.in-Some.first.q) c.start.ensures.p c.start.ensures.q c.in-Some.ensures.next),
    )

pub returns-clause-few : goal.returns-clause-few
returns-clause-few g c =
    omega (
      arith,
      c.label_all-2.ensures.counted,
      c.find_clashes.ensures.counted,
      two-pairs c.args.graph.now c.in-Some.first.p c.in-Some.first.q c.next_pair-2.result c.in-Some.ensures.ids
          (subst₂ (λ (p q : ℕ). IsNextPair (G c.args.graph.now.traces) p q c.in-Some.first.p c.in-Some.first.q) c.start.ensures.p c.start.ensures.q c.in-Some.ensures.next)
          c.if-is_none.ensures c.next_pair-2.ensures.next,
    )
