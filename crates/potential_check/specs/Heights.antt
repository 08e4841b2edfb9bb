-- Heights of cells by a list that is read once.
use Rattle.std.specs.Prelude.{◌^◌, Bool, true, ◌&&◌, if◌then◌else◌, List, [], ◌∷◌, map, ℤ, pos}
use Rattle.std.specs.List.{list_all}
use Rattle.root2_cost.specs.declared.Cost.{Cost}
use Rattle.root2_cost.specs.Signed.{signed_of, cost_difference}
use Rattle.root2_cost.specs.Rank.{signed_rank}
use Rattle.grid_moves.specs.declared.Cell.{Cell}
use Rattle.grid_moves.specs.Move.{is_same}
use Rattle.grid_moves.specs.Points.{estimate}
use Rattle.potential_check.specs.Certificate.{is_small}
use Rattle.potential_check.specs.declared.heights.Heights.{Heights}
use Rattle.potential_check.specs.declared.heights.Heights.TheVariants.{Values, Members}

-- the height that a value is
abbrev pub value_height : Cost → ℤ
value_height value = signed_rank (signed_of value)

-- a list of values as entries: each cell with the height that its value is
abbrev pub value_entries : List (Cell × Cost) → List (Cell × ℤ)
value_entries = map (λ entry. (entry.0, value_height entry.1))

-- listed cells where no walk is claimed, with their height
abbrev pub member_entries : List Cell → List (Cell × ℤ)
member_entries = map (λ cell. (cell, pos 0))

-- the listed cells with their heights
abbrev pub entries : Heights → List (Cell × ℤ)
entries (Values cost goal rest) = value_entries rest.now
entries (Members rest) = member_entries rest.now

-- the height of a cell with no value
abbrev pub value_floor : Cost → Cell → Cell → ℤ
value_floor cost goal c = signed_rank (cost_difference cost (estimate c goal))

-- the height of an unlisted cell where no walk is claimed
abbrev pub member_floor : Cell → ℤ
member_floor c = pos (2 ^ 62)

-- the height of any other cell
abbrev pub floor : Heights → Cell → ℤ
floor (Values cost goal rest) = value_floor cost goal
floor (Members rest) = member_floor

-- the values have parts of at most nine digits
abbrev pub values_are_low : List (Cell × Cost) → Bool
values_are_low = list_all (λ entry. is_small entry.1)

-- the stated cost and the values have parts of at most nine digits
abbrev pub are_low : Heights → Bool
are_low (Values cost goal rest) = is_small cost && values_are_low rest.now
are_low (Members rest) = true

-- the height of a cell that no entry but the first may be of
abbrev pub first_height : (Cell → ℤ) → List (Cell × ℤ) → Cell → ℤ
first_height floor [] c = floor c
first_height floor (entry ∷ entries) c = if is_same entry.0 c then entry.1 else floor c

-- the entries without the first, where that is the cell's
abbrev pub rest_after : List (Cell × ℤ) → Cell → List (Cell × ℤ)
rest_after [] c = []
rest_after (entry ∷ entries) c = if is_same entry.0 c then entries else entry ∷ entries
