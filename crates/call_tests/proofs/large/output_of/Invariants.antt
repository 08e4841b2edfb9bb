use Rattle.call_tests.proofs.large.output_of.Given as goal

abbrev pub ghosts-run_counting : goal.ghosts-run_counting
ghosts-run_counting g a = record { name = a.blank.name; parts = a.blank.parts }
