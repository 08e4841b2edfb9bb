use Rattle.steps.proofs.tests.a_caller_that_reads_no_count.Given as goal

-- the ledger of the blank that the test makes
abbrev pub ghosts-larger : goal.ghosts-larger
ghosts-larger g a = record { name = a.blank.name; parts = a.blank.parts }
