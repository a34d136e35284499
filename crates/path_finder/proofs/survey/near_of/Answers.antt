use Rattle.partition_graph.specs.Seen.{seen}
use Rattle.path_finder.proofs.Surveying.{kept-too}
use Rattle.path_finder.proofs.survey.near_of.Goals as goal

pub returns-clause-surveyed : goal.returns-clause-surveyed
returns-clause-surveyed c =
    kept-too c.args.survey.now c.keep.new.self (seen c.args.sight.now.view) (record { id = c.args.id; near = c.find.new.self.near }) c.requires.surveyed c.find.ensures c.keep.ensures

pub returns-in-Some-clause-around : goal.returns-in-Some-clause-around
returns-in-Some-clause-around c = c.requires.surveyed c.in-Some.ensures.0 (record { id = c.args.id; near = c.in-Some.near }) c.in-Some.ensures.1
