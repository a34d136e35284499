use Rattle.synoptic_cli.proofs.Alone.{ends-are-one, statuses-are-one}
use Rattle.synoptic_cli.proofs.law.runs_end_alike.Goals as goal

pub returns-clause-ends : goal.returns-clause-ends
returns-clause-ends c = ends-are-one (record { model = c.one_model.ensures; final = c.one_final.ensures; ends = c.ends_exclude.ensures })

pub returns-clause-statuses : goal.returns-clause-statuses
returns-clause-statuses c = statuses-are-one (record { model = c.one_model.ensures; final = c.one_final.ensures; ends = c.ends_exclude.ensures })
