-- The grounds that are drawn in strokes.
use Rattle.std.specs.Prelude.{ℕ, Bool, ◌==◌, ◌||◌, List, map, codes, Option, Some, None, if◌then◌else◌}
use Rattle.picture.specs.declared.kinds.DrawnGround.{DrawnGround}
use Rattle.picture.specs.declared.kinds.DrawnGround.TheVariants.{Swamp, Trees, Wall, Water}
use Rattle.picture.specs.Runs.{Run, runs_from}

-- whether a byte of a map is a cell of the ground: `S`, `T`, `@` or `O`, `W`
abbrev pub is_of : DrawnGround → ℕ → Bool
is_of Swamp byte = byte == 83
is_of Trees byte = byte == 84
is_of Wall byte = byte == 64 || byte == 79
is_of Water byte = byte == 87

-- the colour of its strokes
abbrev pub colour : DrawnGround → List ℕ
colour Swamp = codes "#c9bf8f"
colour Trees = codes "#5c8a57"
colour Wall = codes "#3b3f46"
colour Water = codes "#8fbfe0"

-- the longest runs of cells of the ground in a row of a map
abbrev pub runs_of : DrawnGround → List ℕ → List Run
runs_of kind row = runs_from 0 (map (is_of kind) row)

-- whether a byte is drawn as the background alone: `.` and `G`
abbrev pub is_background : ℕ → Bool
is_background byte = byte == 46 || byte == 71

-- the ground of a byte of a map, where it has strokes
abbrev pub ground_of : ℕ → Option DrawnGround
ground_of byte = if byte == 83 then Some Swamp else if byte == 84 then Some Trees
    else if byte == 64 || byte == 79 then Some Wall else if byte == 87 then Some Water else None
