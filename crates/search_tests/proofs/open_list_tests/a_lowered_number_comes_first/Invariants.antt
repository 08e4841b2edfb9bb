use Rattle.search_tests.proofs.open_list_tests.a_lowered_number_comes_first.Given as goal

-- the ledger of the blank that the test makes
abbrev pub ghosts-three_numbers : goal.ghosts-three_numbers
ghosts-three_numbers g a = record { name = a.blank.name; parts = a.blank.parts }
