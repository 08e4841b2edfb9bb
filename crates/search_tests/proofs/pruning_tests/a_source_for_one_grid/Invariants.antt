use Rattle.search_tests.proofs.pruning_tests.a_source_for_one_grid.Given as goal

-- the ledger of the blank that the test makes
abbrev pub ghosts-starts_of : goal.ghosts-starts_of
ghosts-starts_of g a = record { name = a.blank.name; parts = a.blank.parts }
