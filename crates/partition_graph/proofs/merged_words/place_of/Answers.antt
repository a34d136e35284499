use Rattle.partition_graph.proofs.Places.{places-here}
use Rattle.partition_graph.proofs.merged_words.place_of.Goals as goal

pub returns : goal.returns
returns c = places-here c.args.id c.only_id.result c.only_id.ensures
