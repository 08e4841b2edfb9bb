-- How an entry follows from the entries at the next cell.
use Rattle.std.specs.Prelude.{◌≡◌, ℕ, zero, suc, ℤ, pos, negsuc, neg_ℤ, Bool, true, false, ◌&&◌, ◌||◌, refl}
use Rattle.std.specs.Prelude.{if◌then◌else◌, option_map, unwrap_or}
use Rattle.grid_moves.specs.declared.Cell.{Cell}
use Rattle.grid_moves.specs.declared.Corner.TheVariants.{Never}
use Rattle.grid_moves.specs.declared.Dir.{Dir}
use Rattle.grid_moves.specs.declared.Dir.TheVariants.{E, SE}
use Rattle.grid_moves.specs.Grid.{GridData}
use Rattle.grid_moves.specs.Move.{legal_ahead}
use Rattle.grid_moves.specs.Examples.{notch}
use Rattle.pruning.specs.declared.turns.Side.TheVariants.{Right, Left}
use Rattle.pruning.specs.Turns.{turn, is_diagonal}
use Rattle.pruning.specs.Marked.{is_forced}
use Rattle.plus_tables.specs.Entry.{table_entry}

-- the entry tells of a mark: it is above 0
abbrev pub tells_mark : ℤ → Bool
tells_mark (pos zero) = false
tells_mark (pos (suc k)) = true
tells_mark (negsuc n) = false

-- the same mark, or the same end of a run, from one move further back
abbrev pub from_before : ℤ → ℤ
from_before (pos zero) = negsuc 0
from_before (pos (suc k)) = pos (suc (suc k))
from_before (negsuc n) = negsuc (suc n)

-- v is marked for d, by the entries at v: a neighbour is forced there, or d is diagonal and the entry of
-- a component tells of a mark
abbrev pub is_mark_by : GridData → (Cell → Dir → ℤ) → Dir → Cell → Bool
is_mark_by g entry d v = is_forced g v d
    || (is_diagonal d && (tells_mark (entry v (turn Right d)) || tells_mark (entry v (turn Left d))))

-- the entry in d of a cell from which a legal move in d leads to v, made from the entries at v
abbrev pub entry_through : GridData → (Cell → Dir → ℤ) → Dir → Cell → ℤ
entry_through g entry d v = if is_mark_by g entry d v then pos 1 else from_before (entry v d)

-- the entry in d of a cell, made from the entries at the next cell; 0 where no move leads there
abbrev pub entry_by_next : GridData → (Cell → Dir → ℤ) → Cell → Dir → ℤ
entry_by_next g entry c d = unwrap_or (option_map (λ v. entry_through g entry d v) (legal_ahead g c d))
    (pos 0)

-- the local law: on each grid, every entry follows so from those at the next cell
abbrev pub EntriesFollow : Type 0
EntriesFollow = (g : GridData) (c : Cell) (d : Dir)
    → table_entry g c d ≡ entry_by_next g (table_entry g) c d

abbrev cell : ℕ → ℕ → Cell
cell x y = record { x = x; y = y }

-- on `...../.@...`: from a mark at the next cell, from a mark beyond it, from the border
pub mark_next : entry_by_next (notch Never) (table_entry (notch Never)) (cell 1 0) E ≡ pos 1
mark_next = refl

pub mark_beyond : entry_by_next (notch Never) (table_entry (notch Never)) (cell 0 0) E ≡ pos 2
mark_beyond = refl

pub border_beyond : entry_by_next (notch Never) (table_entry (notch Never)) (cell 2 0) E ≡ neg_ℤ (pos 2)
border_beyond = refl

-- and diagonally
pub no_move : entry_by_next (notch Never) (table_entry (notch Never)) (cell 0 0) SE ≡ pos 0
no_move = refl

pub one_move : entry_by_next (notch Never) (table_entry (notch Never)) (cell 2 0) SE ≡ neg_ℤ (pos 1)
one_move = refl
