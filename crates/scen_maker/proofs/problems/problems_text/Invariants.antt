use Rattle.scen_maker.proofs.problems.problems_text.Given as goal

abbrev pub ghosts-price_alone : goal.ghosts-price_alone
ghosts-price_alone a = record { name = a.blank.name; parts = a.blank.parts }
