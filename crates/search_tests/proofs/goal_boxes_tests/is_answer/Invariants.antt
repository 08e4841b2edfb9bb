use Rattle.search_tests.proofs.goal_boxes_tests.is_answer.Given as goal

-- the ledger of the blank that the test makes
abbrev pub ghosts-finds_it : goal.ghosts-finds_it
ghosts-finds_it a = record { name = a.blank.name; parts = a.blank.parts }
