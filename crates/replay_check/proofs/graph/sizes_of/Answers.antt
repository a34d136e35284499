use Rattle.std.proofs.Common.{◌≡◌, ℕ, List, length, get_or, ◌∙◌, ap, arith}
use Rattle.std.proofs.lemmas.List.{length-replicate, with_items_is}
use Rattle.limits.specs.declared.TheConstants.{MAX_PARTITIONS}
use Rattle.replay_check.proofs.graph.sizes_of.Goals as goal
use Rattle.replay_check.proofs.graph.sizes_of.Goals.{In_ok-sizes}

-- how long the list is at first
long : (c : In_ok-sizes) → length c.in_ok-sizes.sizes.items ≡ MAX_PARTITIONS
long c = ap length (c.in_ok-sizes.ensures.items_if_clones_equal (λ y same. same)) ∙ length-replicate {A = ℕ} MAX_PARTITIONS 0

pub count_ids-requires-clause-size : goal.count_ids-requires-clause-size
count_ids-requires-clause-size c = ap length c.as_mut_slice.ensures.value ∙ long (goal.at.count_ids-requires-clause-size c).In_ok-sizes

pub returns-clause-size : goal.returns-clause-size
returns-clause-size c =
    ap length (with_items_is c.in_ok-sizes.sizes c.count_ids.new.sizes (omega (arith, c.count_ids.auto.sizes, c.as_mut_slice.ensures.len)))
    ∙ c.count_ids.ensures.size ∙ ap length c.as_mut_slice.ensures.value ∙ long (goal.at.returns-clause-size c).In_ok-sizes

pub returns-clause-sizes : goal.returns-clause-sizes
returns-clause-sizes c = λ p l.
    ap (λ (xs : List ℕ). get_or xs p 0) (with_items_is c.in_ok-sizes.sizes c.count_ids.new.sizes (omega (arith, c.count_ids.auto.sizes, c.as_mut_slice.ensures.len))) ∙ c.count_ids.ensures.sizes p l
