-- Walks back that keep abreast.
use Rattle.std.specs.Prelude.{◌≡◌, ℕ, suc, ◌+◌, ◌-◌, Bool, true, false, ◌||◌, Some, List, [], ◌∷◌}
use Rattle.std.specs.Prelude.{if◌then◌else◌, length, ◌≤◌}
use Rattle.grid_moves.specs.declared.Cell.{Cell}
use Rattle.grid_moves.specs.declared.Dir.{Dir}
use Rattle.grid_moves.specs.Grid.{GridData, is_inside}
use Rattle.grid_moves.specs.Move.{ahead, is_same}
use Rattle.plus_tables.specs.Tables.{TablesData}
use Rattle.table_repair.specs.declared.walks.WalkBack.{WalkBack}
use Rattle.table_repair.specs.Mending.{IsRight, AreReady, FollowBut, IsMended, Mends, either}
use Rattle.table_repair.specs.Lines.{lines_rise, line_of, lines_of}

-- one of the walks stands at the cell
abbrev pub is_at_one : List WalkBack → Cell → Bool
is_at_one [] w = false
is_at_one (v ∷ vs) w = is_same w v.at || is_at_one vs w

-- each of the walks stands at an entry that is right, and those for the direction can be refreshed
pub record AreStanding (h : GridData) (t : TablesData) (d : Dir) (walks : List WalkBack) : Type 0 where
  pub ready : AreReady h t d
  pub inside : (w : Cell) → is_at_one walks w ≡ true → is_inside h w ≡ true
  pub right : (w : Cell) → is_at_one walks w ≡ true → IsRight h t w d

-- a walk came from the one cell to the other, at which the entry is right
pub record IsOnward (h : GridData) (t : TablesData) (d : Dir) (from u : Cell) : Type 0 where
  pub inside : is_inside h u ≡ true
  pub right : IsRight h t u d
  pub behind : ahead d u ≡ Some from

-- the cell lies one move behind one of these
pub record IsBehindOne (d : Dir) (there : Cell → Bool) (u : Cell) : Type 0 where
  pub from : Cell
  pub stood : there from ≡ true
  pub behind : ahead d u ≡ Some from

-- no cell
abbrev pub no_cell : Cell → Bool
no_cell v = false

-- The walks that stand, after n entries were made right behind the cells where they begin. Of what waited
-- for those cells only what is left and what waits for the walks waits still.
pub record KeepAbreast (h : GridData) (d : Dir) (starts : Cell → Bool) (old now : TablesData)
    (walks : List WalkBack) (left : Cell → Bool) (n : ℕ) : Type 0 where
  pub standing : AreStanding h now d walks
  pub mended : (w : Cell) → is_at_one walks w ≡ true → IsMended h now d starts n w
  pub mends : Mends h d starts old now n
  pub follows : (later : Cell → Bool) → FollowBut h old d (either starts later)
      → FollowBut h now d (either (is_at_one walks) (either left later))

-- how many lines across the direction lie behind a cell, its own among them
abbrev pub back_room : GridData → Dir → Cell → ℕ
back_room h d w = suc (if lines_rise d then line_of d w else lines_of h d - suc (line_of d w))

-- and behind all walks
unfoldable pub room_of : GridData → Dir → List WalkBack → ℕ
room_of h d [] = 0
room_of h d (v ∷ vs) = back_room h d v.at + room_of h d vs

-- One round: each walk went one move back, or ended.
pub record LedOn (h : GridData) (d : Dir) (old new : TablesData) (walks onward : List WalkBack)
    (before after : ℕ)
    : Type 0 where
  pub abreast : KeepAbreast h d (is_at_one walks) old new onward no_cell (length onward)
  pub behind : (w : Cell) → is_at_one onward w ≡ true → IsBehindOne d (is_at_one walks) w
  pub room : length onward + room_of h d onward ≤ room_of h d walks
  pub fewer : length onward ≤ length walks
  pub steps : after ≤ before + length walks
  pub later : before ≤ after
