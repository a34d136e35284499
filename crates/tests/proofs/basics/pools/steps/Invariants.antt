use Rattle.tests.proofs.basics.pools.steps.Given as goal

-- the ledger of the counter
abbrev pub ghosts-count_six : goal.ghosts-count_six
ghosts-count_six a = record { name = a.blank.name; parts = a.blank.parts }
