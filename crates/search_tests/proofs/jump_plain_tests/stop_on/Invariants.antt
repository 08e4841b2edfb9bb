use Rattle.search_tests.proofs.jump_plain_tests.stop_on.Given as goal

-- the ledger of the blank that the test makes
abbrev pub ghosts-stop_of : goal.ghosts-stop_of
ghosts-stop_of a = record { name = a.blank.name; parts = a.blank.parts }
