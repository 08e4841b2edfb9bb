use Rattle.table_tests.proofs.plus_tables_tests.check_entries.Given as goal

-- the ledger of the blank that is made here
abbrev pub ghosts-entry_of : goal.ghosts-entry_of
ghosts-entry_of g a = record { name = a.blank.name; parts = a.blank.parts }
