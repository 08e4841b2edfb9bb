-- The map of a seed.
use Rattle.std.specs.Prelude.{ℕ, ◌*◌, ◌%◌, nat_lt, if◌then◌else◌, map}
use Rattle.map_text.specs.Map.{Map}
use Rattle.map_maker.specs.Words.{words_of}

-- the cell of a word is `@` where the word modulo 100 is below the percentage, else `.`
abbrev pub cell_of : ℕ → ℕ → ℕ
cell_of percent word = if nat_lt (word % 100) percent then 64 else 46

-- one word for each cell, row by row from the left
abbrev pub made_map : ℕ → ℕ → ℕ → ℕ → Map
made_map seed width height percent = record {
  width = width;
  height = height;
  cells = map (cell_of percent) (words_of seed (height * width));
}
