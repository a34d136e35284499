use Rattle.std.proofs.Common.{◌≤◌, ◌+◌, ◌*◌, ℕ, sym, subst, subst₂, arith}
use Rattle.limits.specs.declared.TheConstants.{MAX_PAIRS}
use Rattle.partition_bounds.specs.Pairs.{longest_path, pair_of}
use Rattle.coarsener.specs.Fitting.{most_ids}
use Rattle.coarsener.proofs.Behind.{pair-smaller}
use Rattle.coarsener.proofs.BlockSums.{IsSumming, sums-start, sums-next, sums-end, sums-few}
use Rattle.coarsener.proofs.fitting.most_in_all.Goals as goal

pub loop-pair-init : goal.loop-pair-init
loop-pair-init c =
    record {
      low = omega (arith, c.start-at.ensures.p);
      order = omega (arith, c.start-at.ensures.p, c.start-at.ensures.q);
      limit = omega (arith, c.start-at.ensures.q);
      run = λ ids. subst₂ (λ (p q : ℕ). IsSumming c.args.known c.args.graph.now p q 0) (sym c.start-at.ensures.p) (sym c.start-at.ensures.q) (sums-start c.args.known c.args.graph.now ids);
    }

pub overflow_add-most : goal.overflow_add-most
overflow_add-most c =
    let few : c.loop-pair.most + most_ids c.args.known (pair_of c.in-Some.pair.p c.in-Some.pair.q) ≤ MAX_PAIRS * longest_path =
    sums-few c.args.known c.args.graph.now c.in-Some.pair.p c.in-Some.pair.q (c.loop-pair.most + most_ids c.args.known (pair_of c.in-Some.pair.p c.in-Some.pair.q)) c.in-Some.ensures.ids
    (sums-next c.args.known c.args.graph.now c.loop-pair.at.p c.loop-pair.at.q c.in-Some.pair.p c.in-Some.pair.q c.loop-pair.most (c.loop-pair.invariant.run c.in-Some.ensures.ids) c.in-Some.ensures.next) in
    omega (arith, c.most_ids-most.ensures)

pub loop-pair-preserved : goal.loop-pair-preserved
loop-pair-preserved c =
    record {
      low = c.in-Some.ensures.next.pair.low;
      order = omega (arith, c.in-Some.ensures.next.pair.order);
      limit = c.in-Some.ensures.limit;
      run = λ ids. subst (λ (m : ℕ). IsSumming c.args.known c.args.graph.now c.in-Some.pair.p c.in-Some.pair.q (c.loop-pair.most + m)) (sym c.most_ids-most.ensures)
          (sums-next c.args.known c.args.graph.now c.loop-pair.at.p c.loop-pair.at.q c.in-Some.pair.p c.in-Some.pair.q c.loop-pair.most (c.loop-pair.invariant.run ids) c.in-Some.ensures.next);
    }

pub loop-pair-smaller : goal.loop-pair-smaller
loop-pair-smaller c =
    pair-smaller c.loop-pair.at.p c.loop-pair.at.q c.in-Some.pair.p c.in-Some.pair.q c.in-Some.ensures.next.behind c.in-Some.ensures.limit c.loop-pair.invariant.limit c.in-Some.ensures.next.pair.order

pub returns-clause-value : goal.returns-clause-value
returns-clause-value c =
    sums-end c.args.known c.args.graph.now c.loop-pair.at.p c.loop-pair.at.q c.loop-pair.most (c.loop-pair.invariant.run c.in_default.ensures.ids) c.in_default.ensures.next
