use Rattle.search_tests.proofs.open_list_tests.taking_asks_once_less_than_there_are_children.Given as goal

-- the ledger of the blank that the test makes
abbrev pub ghosts-asks_of_all : goal.ghosts-asks_of_all
ghosts-asks_of_all g a = record { name = a.blank.name; parts = a.blank.parts }
