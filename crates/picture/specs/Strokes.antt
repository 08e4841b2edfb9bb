-- The strokes that are written as a row is passed over.
use Rattle.std.specs.Prelude.{ℕ, zero, suc, ◌-◌, List, []}
use Rattle.picture.specs.Picture.{stroke_over}

-- the stroke of so many cells that end before a column, if there are any, in the row whose number is written
-- so
abbrev pub run_before : List ℕ → ℕ → ℕ → List ℕ
run_before number end zero = []
run_before number end (suc more) = stroke_over number (record { from = end - suc more; long = suc more })
