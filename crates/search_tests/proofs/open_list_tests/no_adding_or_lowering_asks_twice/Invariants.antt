use Rattle.search_tests.proofs.open_list_tests.no_adding_or_lowering_asks_twice.Given as goal

-- the ledger of the blank that the test makes
abbrev pub ghosts-most_asks : goal.ghosts-most_asks
ghosts-most_asks g a = record { name = a.blank.name; parts = a.blank.parts }
