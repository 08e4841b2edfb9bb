-- How far a reading has come.
use Rattle.std.specs.Prelude.{◌≡◌, ℕ, ◌+◌, List, drop}
use Rattle.text_line.specs.Left.{Left}
use Rattle.map_text.specs.Faults.{CleanBefore, height_of, width_of}

-- the lines before a place break nothing, and those from it on are left
pub record Stands (lines : List (List ℕ)) (place : ℕ) (left : Left) : Type 0 where
  pub clean : CleanBefore lines place
  pub rest : left.lines ≡ drop place lines
  pub number : left.number ≡ place + 1

-- the header breaks nothing and names this height and this width, and the lines after it are left
pub record StandsAfterHeader (lines : List (List ℕ)) (left : Left) (sides : ℕ × ℕ) : Type 0 where
  pub stands : Stands lines 4 left
  pub height : sides.0 ≡ height_of lines
  pub width : sides.1 ≡ width_of lines
