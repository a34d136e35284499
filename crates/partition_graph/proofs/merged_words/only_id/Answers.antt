use Rattle.partition_graph.proofs.NeighbourWords.{word-here}
use Rattle.partition_graph.proofs.merged_words.only_id.Goals as goal

pub returns : goal.returns
returns c = word-here c.args.id c.args.place c.if-id-place.false
