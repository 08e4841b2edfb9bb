-- What a scan along a line of bits passes: from its start, move by move.
use Rattle.std.specs.Prelude.{◌≡◌, ℕ, zero, suc, ◌+◌, ◌-◌, ◌<◌, Bool, true, false, not, ◌&&◌, ◌||◌}
use Rattle.std.specs.Prelude.{if◌then◌else◌}
use Rattle.grid_moves.specs.declared.Corner.{Corner}
use Rattle.grid_moves.specs.Move.{may_cut, may_slip}
use Rattle.jump_block.specs.declared.word.Way.{Way}
use Rattle.jump_block.specs.declared.word.Way.TheVariants.{Forward, Back}

-- after so many moves: whether the cell there is free, and the cells beside it in the line before and the
-- line after
pub record Trail : Type 0 where
  pub free : ℕ → Bool
  pub before : ℕ → Bool
  pub after : ℕ → Bool

-- a side opens from one cell to the next: it is blocked at the one, and free at the next
abbrev pub opens : (ℕ → Bool) → ℕ → Bool
opens side k = not (side k) && side (suc k)

-- one of both does
abbrev pub opens_beside : Trail → ℕ → Bool
opens_beside t k = opens t.before k || opens t.after k

-- a scan halts before the move on from the cell after k moves: the next cell is blocked, or a side opens
abbrev pub halts : Trail → ℕ → Bool
halts t k = not (t.free (suc k)) || opens_beside t k

-- where it halts, it shows a mark: the next cell is free, so that a side opens there, or, where a diagonal
-- move may pass between two blocked cells, a side opens beside a blocked one
abbrev pub shows_mark : Corner → Trail → ℕ → Bool
shows_mark rule t k = t.free (suc k) || (may_slip rule && opens_beside t k)

-- where a corner may be cut, the first move would show a mark of the cell where the scan starts, which is not
-- looked for: so both sides there count as free
abbrev pub at_start : Corner → (ℕ → Bool) → ℕ → Bool
at_start rule side zero = if may_cut rule then true else side zero
at_start rule side (suc k) = side (suc k)

abbrev pub begun : Corner → Trail → Trail
begun rule t = record { free = t.free; before = at_start rule t.before; after = at_start rule t.after }

-- the place on the line after k moves; before the first place there is none, and the line begins with a
-- border
abbrev pub along : Way → ℕ → ℕ → ℕ
along Forward from k = from + k
along Back from k = from - k

-- along a line of a map whose cells are known by line and place
abbrev pub trail_on : (ℕ → ℕ → Bool) → Way → ℕ → ℕ → Trail
trail_on free way line from = record {
  free = λ k. free line (along way from k);
  before = λ k. free (line - 1) (along way from k);
  after = λ k. free (line + 1) (along way from k);
}

-- nothing halts a scan of so many moves
abbrev pub IsClear : Trail → ℕ → Type 0
IsClear t n = (k : ℕ) → k < n → halts t k ≡ false

-- the scan halts after so many moves, the first time, and shows a mark there or none
pub record Halts (rule : Corner) (t : Trail) (passed : ℕ) (marked : Bool) : Type 0 where
  pub clear : IsClear t passed
  pub here : halts t passed ≡ true
  pub shown : marked ≡ shows_mark rule t passed
