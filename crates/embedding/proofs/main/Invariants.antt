use Rattle.embedding.proofs.main.Given as goal

-- the ledger of the blank that the program makes
abbrev pub ghosts-reply_with_door : goal.ghosts-reply_with_door
ghosts-reply_with_door a = record { name = a.blank.name; parts = a.blank.parts }

-- and so of the one for the other queries
abbrev pub ghosts-print_others : goal.ghosts-print_others
ghosts-print_others a = record { name = a.blank.name; parts = a.blank.parts }
