use Rattle.search_tests.proofs.jump_block_tests.starts_alike.Given as goal

-- the ledgers of the blanks that the test makes
abbrev pub ghosts-starts_of : goal.ghosts-starts_of
ghosts-starts_of a = record { name = a.blank.name; parts = a.blank.parts }

abbrev pub ghosts-starts_of-2 : goal.ghosts-starts_of-2
ghosts-starts_of-2 a = record { name = a.blank.name; parts = a.blank.parts }
