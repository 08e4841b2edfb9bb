use Rattle.search_tests.proofs.open_list_tests.adding_and_lowering_ask_once.Given as goal

-- the ledger of the blank that the test makes
abbrev pub ghosts-asks_of_all : goal.ghosts-asks_of_all
ghosts-asks_of_all g a = record { name = a.blank.name; parts = a.blank.parts }
