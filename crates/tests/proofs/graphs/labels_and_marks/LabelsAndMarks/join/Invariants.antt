use Rattle.tests.proofs.graphs.labels_and_marks.LabelsAndMarks.join.Given as goal

-- the ledger of a counter that nobody reads
abbrev pub ghosts-join_counted : goal.ghosts-join_counted
ghosts-join_counted a = record { name = a.blank.name; parts = a.blank.parts }
