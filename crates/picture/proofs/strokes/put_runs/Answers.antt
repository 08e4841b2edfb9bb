use Rattle.std.proofs.Common.{arith}
use Rattle.std.proofs.lemmas.Bool.Decides.{nat_tests}
use Rattle.std.proofs.Common.{get_or}
use Rattle.picture.proofs.Passing.{cell_passed, gap_passed, row_passed}
use Rattle.picture.proofs.strokes.put_runs.Goals as goal
use Rattle.picture.proofs.strokes.put_runs.Goals.{then-is_either, else-is_either+in_ok-put_run}

pub returns : goal.returns
returns c = grind (arith, nat_tests, row_passed)

pub loop-x-preserved : goal.loop-x-preserved
loop-x-preserved c =
    grind (arith, nat_tests, get_or, then-is_either, cell_passed, else-is_either+in_ok-put_run, gap_passed)
