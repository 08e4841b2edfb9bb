use Rattle.table_tests.proofs.table_repair_tests.five_hundred_edits.Given as goal

-- the ledger of the blank that the test makes
abbrev pub ghosts-edits_agree : goal.ghosts-edits_agree
ghosts-edits_agree g a = record { name = a.blank.name; parts = a.blank.parts }
