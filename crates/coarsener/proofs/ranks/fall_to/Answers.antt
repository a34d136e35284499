use Rattle.std.proofs.Common.{◌≡◌, ◌+◌, ◌-◌, max, arith}
use Rattle.partition_model.specs.Assignments.{G}
use Rattle.coarsener.specs.Fitting.{rank_of, fall_to}
use Rattle.coarsener.proofs.Rising.{fall-next, fall-end}
use Rattle.coarsener.proofs.ranks.fall_to.Goals as goal

pub loop-from-preserved : goal.loop-from-preserved
loop-from-preserved c =
    let e : fall_to c.args.ranks.now (G c.args.graph.now.traces) c.args.p (c.in-Some.from + 1)
    ≡ max (fall_to c.args.ranks.now (G c.args.graph.now.traces) c.args.p c.loop-from.reached) (rank_of c.args.ranks.now c.in-Some.from + 1 - rank_of c.args.ranks.now c.args.p) =
    fall-next c.args.ranks.now (G c.args.graph.now.traces) c.args.p c.loop-from.reached c.in-Some.from c.in-Some.ensures.next in
    record {
      limit = omega (arith, c.in-Some.ensures.within);
      reached = omega (arith, c.in-Some.ensures.within);
      value = omega (arith, c.max-fall.ensures, c.saturating_sub.ensures, c.number_at-rank.ensures, c.number_at-own.ensures, c.loop-from.invariant.value);
      within = omega (arith, c.max-fall.ensures, c.saturating_sub.ensures, c.number_at-rank.type_inv, c.loop-from.invariant.within);
    }

pub returns-clause-value : goal.returns-clause-value
returns-clause-value c =
    let e : fall_to c.args.ranks.now (G c.args.graph.now.traces) c.args.p c.args.graph.now.used ≡ fall_to c.args.ranks.now (G c.args.graph.now.traces) c.args.p c.loop-from.reached =
    fall-end c.args.ranks.now (G c.args.graph.now.traces) c.args.p c.loop-from.reached c.args.graph.now.used c.loop-from.invariant.reached c.in_default.ensures.next in
    omega (arith, c.loop-from.invariant.value)
