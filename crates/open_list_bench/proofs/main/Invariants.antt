use Rattle.open_list_bench.proofs.main.Given as goal

-- the ledger of the blank that the program makes
abbrev pub ghosts-rounds : goal.ghosts-rounds
ghosts-rounds a = record { name = a.blank.name; parts = a.blank.parts }
