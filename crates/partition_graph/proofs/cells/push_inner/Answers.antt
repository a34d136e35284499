use Rattle.std.proofs.Common.{rules, tests}
use Rattle.std.proofs.lemmas.Iterator.{YieldsList-from_slice, YieldsList-from_map}
use Rattle.std.proofs.lemmas.Iterator.Adapters.{items_from_extend}
use Rattle.partition_graph.specs.Cells.{inner_cell}
use Rattle.partition_graph.proofs.cells.push_inner.Goals as goal

pub returns : goal.returns
returns c = let h = items_from_extend c.extend.result c.extend.ensures.ran (YieldsList-from_map _ inner_cell (YieldsList-from_slice c.args.numbers.now cc) c.map.ensures.closure (λ x r q k. search (rules, tests))) in search rules
