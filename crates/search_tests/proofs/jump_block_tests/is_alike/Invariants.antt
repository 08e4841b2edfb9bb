use Rattle.search_tests.proofs.jump_block_tests.is_alike.Given as goal

-- the ledgers of the blanks that it makes
abbrev pub ghosts-stop_of : goal.ghosts-stop_of
ghosts-stop_of a = record { name = a.blank.name; parts = a.blank.parts }

abbrev pub ghosts-stop_of-2 : goal.ghosts-stop_of-2
ghosts-stop_of-2 a = record { name = a.blank.name; parts = a.blank.parts }
