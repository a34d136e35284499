use Rattle.std.proofs.Common.{rules}
use Rattle.model_check.proofs.graph.ModelGraph.has_merged_edge.Goals as goal

pub returns-then-has_edge-3 : goal.returns-then-has_edge-3
returns-then-has_edge-3 c = search rules

pub returns-then-v-p-2 : goal.returns-then-v-p-2
returns-then-v-p-2 c = search rules

pub returns-else-v-p-2 : goal.returns-else-v-p-2
returns-else-v-p-2 c = search rules
