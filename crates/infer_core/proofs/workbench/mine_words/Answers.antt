use Rattle.std.proofs.Common.{ℕ, List, IfOk, sym, subst}
use Rattle.count_miner.specs.Distinct.{NumberWords}
use Rattle.partition_graph.specs.Spread.{SharesWords}
use Rattle.infer_core.proofs.Numbered.{numbers-tell}
use Rattle.infer_core.proofs.workbench.mine_words.Goals as goal

pub mine_distinct-requires-clause-words : goal.mine_distinct-requires-clause-words
mine_distinct-requires-clause-words c =
    let shares : SharesWords c.args.traces.now c.in-Ok.field-0-0 c.in-Ok.numbers.items =
    subst (λ r. IfOk r (λ made. SharesWords c.args.traces.now made.0 made.1.items)) c.in-Ok.is c.requires in
    subst (λ (xs : List ℕ). NumberWords xs c.args.traces.now.traces) (sym c.as_slice.ensures.value)
    (numbers-tell c.args.traces.now c.in-Ok.field-0-0 c.in-Ok.numbers.items shares)
