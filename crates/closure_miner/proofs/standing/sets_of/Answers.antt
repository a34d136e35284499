use Rattle.std.proofs.Common.{[], ◌∷◌, ◌++◌, ap, ◌∙◌}
use Rattle.std.proofs.lemmas.List.{replicate-append-replicate}
use Rattle.closure_miner.proofs.standing.sets_of.Goals as goal

pub loop-i-preserved : goal.loop-i-preserved
loop-i-preserved g c = c.in_ok-push.ensures.items ∙ ap (λ l. l ++ c.args.set ∷ []) c.loop-i.invariant ∙ replicate-append-replicate c.loop-i._i 1 c.args.set
