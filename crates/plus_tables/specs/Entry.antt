-- Table entries: the jump distances of Harabor and Grastien's JPS+, ICAPS 2014.
use Rattle.std.specs.Prelude.{◌≡◌, ℕ, ℤ, pos, neg_ℤ, Option, Some, None, refl, if◌then◌else◌, codes}
use Rattle.grid_moves.specs.declared.Cell.{Cell}
use Rattle.grid_moves.specs.declared.Corner.{Corner}
use Rattle.grid_moves.specs.declared.Corner.TheVariants.{Never, One, Both}
use Rattle.grid_moves.specs.declared.Dir.{Dir}
use Rattle.grid_moves.specs.declared.Dir.TheVariants.{E, SE, W}
use Rattle.grid_moves.specs.Grid.{GridData, grid_of, is_free}
use Rattle.grid_moves.specs.Examples.{notch, touch}
use Rattle.pruning.specs.First.{first_mark, run_length}

-- a mark after so many moves, or else minus the moves of a run
abbrev pub mark_or_run : Option ℕ → ℕ → ℤ
mark_or_run (Some k) n = pos k
mark_or_run None n = neg_ℤ (pos n)

-- the number of moves from a free cell in d to the first cell of the legal run that is marked for d, or else
-- minus the number of moves of the legal run; 0 at a blocked cell
abbrev pub table_entry : GridData → Cell → Dir → ℤ
table_entry g c d = if is_free g c then mark_or_run (first_mark g c d) (run_length g c d) else pos 0

abbrev cell : ℕ → ℕ → Cell
cell x y = record { x = x; y = y }

-- on `...../.@...`
pub mark_after_two : table_entry (notch Never) (cell 0 0) E ≡ pos 2
mark_after_two = refl

pub mark_after_one : table_entry (notch Never) (cell 1 0) E ≡ pos 1
mark_after_one = refl

pub two_moves_to_the_border : table_entry (notch Never) (cell 2 0) E ≡ neg_ℤ (pos 2)
two_moves_to_the_border = refl

pub mark_after_four : table_entry (notch Never) (cell 4 0) W ≡ pos 4
mark_after_four = refl

pub no_way_down : table_entry (notch Never) (cell 0 0) SE ≡ pos 0
no_way_down = refl

pub one_move_down : table_entry (notch Never) (cell 2 0) SE ≡ neg_ℤ (pos 1)
one_move_down = refl

pub nothing_at_a_wall : table_entry (notch Never) (cell 1 1) E ≡ pos 0
nothing_at_a_wall = refl

-- where a corner may be cut
pub mark_above_the_wall : table_entry (notch One) (cell 0 0) E ≡ pos 1
mark_above_the_wall = refl

pub three_moves_past_it : table_entry (notch One) (cell 1 0) E ≡ neg_ℤ (pos 3)
three_moves_past_it = refl

-- on `.@/@.`, and on `..@/.@.` at the end of a run, where two blocked cells may be passed between
pub one_move_between : table_entry (touch Both) (cell 0 0) SE ≡ neg_ℤ (pos 1)
one_move_between = refl

pub no_move_between : table_entry (touch One) (cell 0 0) SE ≡ pos 0
no_move_between = refl

abbrev corner_end : Corner → GridData
corner_end corner = grid_of 3 2 (codes "..@.@.") corner

pub mark_at_the_end : table_entry (corner_end Both) (cell 0 0) E ≡ pos 1
mark_at_the_end = refl

pub no_mark_at_the_end : table_entry (corner_end One) (cell 0 0) E ≡ neg_ℤ (pos 1)
no_mark_at_the_end = refl

-- on `......./....@..` the goal is not looked for
pub mark_beyond_a_goal : table_entry (grid_of 7 2 (codes "...........@..") Never) (cell 0 0) E ≡ pos 5
mark_beyond_a_goal = refl

-- on `...` and on `.@.`
pub two_moves_on : table_entry (grid_of 3 1 (codes "...") Never) (cell 0 0) E ≡ neg_ℤ (pos 2)
two_moves_on = refl

pub no_move_on : table_entry (grid_of 3 1 (codes ".@.") Never) (cell 0 0) E ≡ pos 0
no_move_on = refl

-- on `..@./..../..../....` the cell (1,1) looks out to a forced neighbour in its row
abbrev gap_above : GridData
gap_above = grid_of 4 4 (codes "..@.............") Never

pub look_out_after_one : table_entry gap_above (cell 0 0) SE ≡ pos 1
look_out_after_one = refl

pub no_look_out_after_it : table_entry gap_above (cell 1 1) SE ≡ neg_ℤ (pos 2)
no_look_out_after_it = refl
