use Rattle.std.proofs.Common.{sym, ◌∙◌, length, ap, List, ℕ}
use Rattle.first_moves.specs.First.{first_in}
use Rattle.first_moves.specs.Runs.{runs_of}
use Rattle.std.proofs.Common.{map}
use Rattle.first_moves.proofs.Picking.{waves_row, same_size}
use Rattle.first_moves.proofs.row.Row.of_waves.Goals as goal

pub returns : goal.returns
returns c = λ grid s wide high tells.
    waves_row grid s c.args.waves.now c.in_ok-runs.runs.items wide
    (ap (λ (l : List ℕ). length l) (sym c.all_first_dirs.ensures.dirs) ∙ same_size high wide
    c.all_first_dirs.ensures.whole)
    tells
    (c.in_ok-runs.ensures.items ∙ c.as_slice.ensures.value ∙ c.in_ok-fill.ensures.runs
    ∙ ap (λ (l : List ℕ). runs_of (map first_in l)) c.all_first_dirs.ensures.dirs)
