use Rattle.std.proofs.Common.{true≢false, get_or, refl, sym, ◌∙◌, ap, arith}
use Rattle.std.proofs.lemmas.List.{same_lists}
use Rattle.invariants.specs.declared.records.Partition.{Partition}
use Rattle.replay_check.proofs.Same.{agree-more, from_not, same-partition, partitions-differ}
use Rattle.replay_check.proofs.listing.same_partitions.Goals as goal

pub loop-i-preserved : goal.loop-i-preserved
loop-i-preserved c =
    let d : Partition = record { id = 0; typ = 0; count = 0 } in
    agree-more c.args.these.now c.args.those.now c.loop-i.i d (omega arith) (omega arith)
    (same-partition (get_or c.args.these.now c.loop-i.i d) (get_or c.args.those.now c.loop-i.i d) (from_not _ (sym c.ne.ensures ∙ c.if-ne.false))) c.loop-i.invariant

pub returns-then-ne : goal.returns-then-ne
returns-then-ne c =
    let d : Partition = record { id = 0; typ = 0; count = 0 } in (
      λ t. absurd (true≢false (sym t)),
      λ e. absurd (partitions-differ (get_or c.args.these.now c.loop-i.i d) (get_or c.args.those.now c.loop-i.i d) (sym c.ne.ensures ∙ c.if-ne.true) (ap (λ xs. get_or xs c.loop-i.i d) e)),
    )

pub returns : goal.returns
returns c = (
  λ t. same_lists c.args.these.now c.args.those.now (omega arith) (λ k d l. c.loop-i.invariant k d (omega (arith, l))),
  λ e. refl,
)
