use Rattle.std.proofs.Common.{◌<◌, ℕ, List, sym, ◌∙◌, subst}
use Rattle.std.specs.List.{All}
use Rattle.std.proofs.lemmas.Result.{IfOk-weaker}
use Rattle.limits.specs.declared.TheConstants.{MAX_PARTITIONS}
use Rattle.replay_check.specs.Shown.{Shows}
use Rattle.replay_check.proofs.follow.follow_traces.Goals as goal
use Rattle.replay_check.proofs.follow.follow_traces.Goals.{In_ok-all}

pub follow_merges-requires-clause-within : goal.follow_merges-requires-clause-within
follow_merges-requires-clause-within c =
    subst (λ (xs : List ℕ). All (λ p. p < MAX_PARTITIONS) xs) (sym (c.as_mut_slice.ensures.value ∙ c.in_ok-all.ensures.gathered)) c.requires.within

pub returns : goal.returns
returns c =
    IfOk-weaker c.follow_merges.result _ _
    (λ answer merged h n s l. merged h n (subst (λ (xs : List ℕ). Shows h n xs c.args.types.now) (sym (c.as_mut_slice.ensures.value ∙ c.in_ok-all.ensures.gathered)) s) l)
    c.follow_merges.ensures
