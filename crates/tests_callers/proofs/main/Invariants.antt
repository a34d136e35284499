use Rattle.tests_callers.proofs.main.Given as goal

-- the ledger of a counter that nobody reads
abbrev pub ghosts-verdict : goal.ghosts-verdict
ghosts-verdict a = record { name = a.blank.name; parts = a.blank.parts }
