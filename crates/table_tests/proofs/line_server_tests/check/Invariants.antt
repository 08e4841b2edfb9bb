use Rattle.table_tests.proofs.line_server_tests.check.Given as goal

-- the ledger of the blank that the test makes
abbrev pub ghosts-check_pieces : goal.ghosts-check_pieces
ghosts-check_pieces g a = record { name = a.blank.name; parts = a.blank.parts }
