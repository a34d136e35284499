use Rattle.std.proofs.Common.{◌≡◌, ℕ, List, ◌++◌, filter, map}
use Rattle.invariants.specs.declared.Kind.TheVariants.{AF}
use Rattle.invariants.specs.Candidates.{invariant, types}
use Rattle.invariants.specs.Mined.{holds_of_all}
use Rattle.closure_miner.specs.Standing.{Stands}
use Rattle.closure_miner.proofs.standing.Standing.push_firsts.Given as goal

abbrev pub invariant-loop-b : goal.invariant-loop-b
invariant-loop-b g l = (words : List (List ℕ)) → Stands g.S.TypeSet.has l.self words → l.list.items ≡ l.fn.list.items ++ filter (holds_of_all words) (map (invariant AF 0) (types l.b))
