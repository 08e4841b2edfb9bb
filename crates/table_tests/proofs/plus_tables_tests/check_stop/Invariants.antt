use Rattle.table_tests.proofs.plus_tables_tests.check_stop.Given as goal

-- the ledger of the blank that is made here
abbrev pub ghosts-stop_of : goal.ghosts-stop_of
ghosts-stop_of g a = record { name = a.blank.name; parts = a.blank.parts }
