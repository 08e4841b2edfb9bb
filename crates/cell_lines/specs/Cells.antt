-- Texts of cells, directions and taken states.
use Rattle.std.specs.Prelude.{◌≡◌, ℕ, ◌/◌, ◌%◌, nat_eq, if◌then◌else◌, List, [], ◌∷◌, ◌++◌, codes, decimal}
use Rattle.std.specs.Prelude.{refl}
use Rattle.grid_moves.specs.declared.Cell.{Cell}
use Rattle.grid_moves.specs.declared.Dir.{Dir}
use Rattle.grid_moves.specs.Move.{dir_number}

-- `x,y`
abbrev pub cell_text : Cell → List ℕ
cell_text c = decimal c.x ++ codes "," ++ decimal c.y

-- ` x,y`
abbrev pub point_text : Cell → List ℕ
point_text c = codes " " ++ cell_text c

-- the texts of all elements, one after the other
abbrev pub texts_of : {X : Type 0} → (X → List ℕ) → List X → List ℕ
texts_of text [] = []
texts_of text (x ∷ xs) = text x ++ texts_of text xs

-- the name of the direction in which a state was reached, by its number from 0; the start has none, nor has a
-- state of the plain engine
abbrev pub arrival_text : ℕ → List ℕ
arrival_text arrival =
    if nat_eq arrival 0 then codes "N" else if nat_eq arrival 1 then codes "NE"
    else if nat_eq arrival 2 then codes "E" else if nat_eq arrival 3 then codes "SE"
    else if nat_eq arrival 4 then codes "S" else if nat_eq arrival 5 then codes "SW"
    else if nat_eq arrival 6 then codes "W" else if nat_eq arrival 7 then codes "NW" else codes "-"

-- the name of a direction
abbrev pub dir_text : Dir → List ℕ
dir_text d = arrival_text (dir_number d)

-- ` x,y:D` of a state by its number, which is nine times its cell's number and its arrival
abbrev pub state_text : ℕ → ℕ → List ℕ
state_text width state =
    point_text (record { x = (state / 9) % width; y = (state / 9) / width }) ++ codes ":"
    ++ arrival_text (state % 9)

-- worked rows, on a map of width 3: the states of the numbers 20 and 44
pub stop_by_east : state_text 3 20 ≡ point_text (record { x = 2; y = 0 }) ++ codes ":" ++ codes "E"
stop_by_east = refl

pub start_of_all : state_text 3 44 ≡ point_text (record { x = 1; y = 1 }) ++ codes ":" ++ codes "-"
start_of_all = refl
