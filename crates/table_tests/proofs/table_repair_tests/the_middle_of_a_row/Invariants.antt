use Rattle.table_tests.proofs.table_repair_tests.the_middle_of_a_row.Given as goal

-- the ledger of the blank that the test makes
abbrev pub ghosts-block_and_free : goal.ghosts-block_and_free
ghosts-block_and_free g a = record { name = a.blank.name; parts = a.blank.parts }
