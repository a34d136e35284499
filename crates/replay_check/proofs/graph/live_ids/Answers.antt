use Rattle.std.proofs.Common.{◌≡◌, ◌<◌, ℕ, List, Bool, true, false, nat_lt, length, get_or, sym, ◌∙◌, ap, subst, arith}
use Rattle.std.proofs.lemmas.List.{get_or-replicate, length-replicate, with_items_is}
use Rattle.limits.specs.declared.TheConstants.{MAX_PARTITIONS}
use Rattle.replay_check.specs.Shown.{Knows}
use Rattle.replay_check.proofs.Known.{knows-live}
use Rattle.replay_check.proofs.graph.live_ids.Goals as goal
use Rattle.replay_check.proofs.graph.live_ids.Goals.{In_ok-live}

-- how long the list is at first
long : (c : In_ok-live) → length c.in_ok-live.live.items ≡ MAX_PARTITIONS
long c = ap length (c.in_ok-live.ensures.items_if_clones_equal (λ y same. same)) ∙ length-replicate {A = Bool} MAX_PARTITIONS true

pub mark_live-requires-clause-live_size : goal.mark_live-requires-clause-live_size
mark_live-requires-clause-live_size c = ap length c.as_mut_slice.ensures.value ∙ long (goal.at.mark_live-requires-clause-live_size c).In_ok-live

pub mark_live-requires-clause-size : goal.mark_live-requires-clause-size
mark_live-requires-clause-size c = ap length c.as_slice.ensures.value ∙ c.in_ok-sizes.ensures.size

pub returns-clause-size : goal.returns-clause-size
returns-clause-size c =
    ap length (with_items_is c.in_ok-live.live c.mark_live.new.live (omega (arith, c.mark_live.auto.live, c.as_mut_slice.ensures.len)))
    ∙ c.mark_live.ensures.size ∙ ap length c.as_mut_slice.ensures.value ∙ long (goal.at.returns-clause-size c).In_ok-live

pub returns-clause-live : goal.returns-clause-live
returns-clause-live c = λ h n types s l.
    let old : (j : ℕ) → j < 2 → get_or c.in_ok-live.live.items j false ≡ true = λ j m.
    ap (λ (xs : List Bool). get_or xs j false) (c.in_ok-live.ensures.items_if_clones_equal (λ y same. same)) ∙ get_or-replicate MAX_PARTITIONS j true false (omega arith) in
    subst (λ (xs : List Bool). Knows h xs types) (sym (with_items_is c.in_ok-live.live c.mark_live.new.live (omega (arith, c.mark_live.auto.live, c.as_mut_slice.ensures.len))))
    (knows-live h n c.args.ids.now types c.in_ok-sizes.sizes.items c.mark_live.new.live l s c.in_ok-sizes.ensures.sizes
    (λ j m. c.mark_live.ensures.ends j m ∙ ap (λ (xs : List Bool). get_or xs j false) c.as_mut_slice.ensures.value ∙ old j m)
    (λ j two m. c.mark_live.ensures.marked j two m ∙ ap (λ (xs : List ℕ). nat_lt 0 (get_or xs j 0)) c.as_slice.ensures.value))
