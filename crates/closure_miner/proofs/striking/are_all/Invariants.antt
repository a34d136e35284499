use Rattle.std.proofs.Common.{◌≡◌, All, take}
use Rattle.closure_miner.proofs.striking.are_all.Given as goal

abbrev pub invariant-loop-set : goal.invariant-loop-set
invariant-loop-set g l = All (λ set. set ≡ l.all) (take l.set-index l.sets)
