use Rattle.std.proofs.Common.{◌≡◌, ◌<◌, ◌∙◌, ℕ, sym, subst, inl, inr, arith}
use Rattle.std.proofs.lemmas.Bool.{cases_lt, true≢false}
use Rattle.partition_model.specs.Assignments.{G}
use Rattle.partition_model.specs.Coarsening.{IsPair}
use Rattle.partition_model.proofs.Listing.{live-below}
use Rattle.coarsener.proofs.pairs.next_partner.Goals as goal

pub loop-q-preserved : goal.loop-q-preserved
loop-q-preserved c r a b i =
    elim (cases_lt r c.loop-q.q) [
      | inl l ↦ c.loop-q.invariant r a l i
      | inr l ↦
          let e : r ≡ c.loop-q.q = omega arith in
          let j : IsPair (G c.args.graph.now.traces) c.args.p c.loop-q.q = subst (λ (z : ℕ). IsPair (G c.args.graph.now.traces) c.args.p z) e i in
          true≢false (sym (c.is_pair.ensures.1 j) ∙ c.if-is_pair.false)
    ]

pub returns-clause-next : goal.returns-clause-next
returns-clause-next c q a i =
    let l : q < c.ids_used-q-end.result = live-below c.args.graph.now.traces c.ids_used-q-end.result q c.ids_used-q-end.ensures.two c.ids_used-q-end.ensures.below i.has_q in
    c.loop-q.invariant q a (omega arith) i
