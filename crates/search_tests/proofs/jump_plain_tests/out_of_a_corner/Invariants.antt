use Rattle.search_tests.proofs.jump_plain_tests.out_of_a_corner.Given as goal

-- the ledger of the blank that the test makes
abbrev pub ghosts-starts_of : goal.ghosts-starts_of
ghosts-starts_of g a = record { name = a.blank.name; parts = a.blank.parts }
