use Rattle.partition_graph.specs.Seen.{seen}
use Rattle.path_finder.specs.IdSets.{has_id}
use Rattle.path_finder.proofs.Surveying.{around-merged}
use Rattle.path_finder.proofs.survey.near_merge.Goals as goal

pub returns-clause-around : goal.returns-clause-around
returns-clause-around c =
    around-merged (seen c.args.sight.now.view) c.args.merge.p c.args.merge.q (has_id c.near_of-near_p.result) (has_id c.near_of-near_q.result) (has_id c.with.result) c.near_of-near_p.ensures.around c.near_of-near_q.ensures.around
    c.with.ensures.own c.with.ensures.others
