use Rattle.tests.proofs.graphs.labels_and_marks.label.Given as goal

-- the ledger of a counter that nobody reads
abbrev pub ghosts-label_counted : goal.ghosts-label_counted
ghosts-label_counted a = record { name = a.blank.name; parts = a.blank.parts }
