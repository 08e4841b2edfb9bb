use Rattle.table_tests.proofs.line_server_tests.a_failed_write_stops_the_answers.Given as goal

-- the ledger of the blank that the test makes
abbrev pub ghosts-check_failing : goal.ghosts-check_failing
ghosts-check_failing g a = record { name = a.blank.name; parts = a.blank.parts }
