use Rattle.std.proofs.Common.{◌∙◌}
use Rattle.partition_graph.specs.Seen.{seen}
use Rattle.labelling.specs.Labelled.{no_marks}
use Rattle.labelling.proofs.Telling.{exact_labels}
use Rattle.labelling.proofs.graph_labels.GraphLabels.find.Goals as goal

pub returns-clause-list : goal.returns-clause-list
returns-clause-list c = c.label.ensures.same ∙ c.in_ok-phase_rows.ensures.list

pub returns-clause-labels : goal.returns-clause-labels
returns-clause-labels c = exact_labels c.label.new.phase_rows.bound (seen c.args.view.now) c.label.new.phase_rows.invs.items c.label.new.phase_rows.rows no_marks c.label.ensures.exact
