use Rattle.search_tests.proofs.open_list_tests.a_plain_scan_agrees.Given as goal

-- the ledger of the blank that the test makes
abbrev pub ghosts-two_rounds : goal.ghosts-two_rounds
ghosts-two_rounds g a = record { name = a.blank.name; parts = a.blank.parts }
