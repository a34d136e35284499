use Rattle.labelling.proofs.phase_rows.PhaseRows.make.Goals as goal

pub returns-clause-list : goal.returns-clause-list
returns-clause-list c = c.in_ok-list.ensures.items
