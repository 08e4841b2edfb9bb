use Rattle.table_tests.proofs.line_server_tests.answers_to_a_piece_are_one_write_up_to_64_kib.Given as goal

-- the ledger of the blank that the test makes
abbrev pub ghosts-check_first_write : goal.ghosts-check_first_write
ghosts-check_first_write g a = record { name = a.blank.name; parts = a.blank.parts }
