use Rattle.std.proofs.Common.{◌≡◌, drop, map}
use Rattle.model_file.specs.Rules.{ascends_from, ascends, pair_less}
use Rattle.model_file.proofs.shape.edges_ascend.Given as goal

abbrev pub invariant-edges : goal.invariant-edges
invariant-edges l = ascends_from pair_less l.before (map (λ e. (e.from, e.to)) (drop l.edge-index l.edges)) ≡ ascends pair_less (map (λ e. (e.from, e.to)) l.edges)
