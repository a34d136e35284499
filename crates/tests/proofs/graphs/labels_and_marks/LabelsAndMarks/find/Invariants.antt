use Rattle.tests.proofs.graphs.labels_and_marks.LabelsAndMarks.find.Given as goal

-- the ledger of a counter that nobody reads
abbrev pub ghosts-find_counted : goal.ghosts-find_counted
ghosts-find_counted a = record { name = a.blank.name; parts = a.blank.parts }
