use Rattle.tests.proofs.graphs.labels_and_marks.LabelsAndMarks.put_satisfied.Given as goal

-- the ledger of a counter that nobody reads
abbrev pub ghosts-tell_counted : goal.ghosts-tell_counted
ghosts-tell_counted a = record { name = a.blank.name; parts = a.blank.parts }
