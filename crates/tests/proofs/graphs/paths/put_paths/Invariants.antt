use Rattle.tests.proofs.graphs.paths.put_paths.Given as goal

-- the ledger of a counter that nobody reads
abbrev pub ghosts-put_least : goal.ghosts-put_least
ghosts-put_least a = record { name = a.blank.name; parts = a.blank.parts }
