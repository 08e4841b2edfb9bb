-- Cells ahead and behind: how columns and rows change along a line.
use Rattle.std.proofs.Common.{◌≡◌, ℕ, ◌+◌, ◌≤◌, arith, true}
use Rattle.std.specs.Prelude.{Some}
use Rattle.std.proofs.lemmas.Bool.Decides.{nat_tests}
use Rattle.grid_moves.specs.declared.Cell.{Cell}
use Rattle.grid_moves.specs.declared.Dir.{Dir}
use Rattle.grid_moves.specs.Move.{ahead, opposite}
use Rattle.pruning.proofs.Running.{Trend, rising, level, falling, column_trend, row_trend, IsMoved, AreMoved}
use Rattle.pruning.proofs.Running.{ahead_moved}
use Rattle.table_repair.specs.Differ.{is_near}

-- a cell one move away is the one ahead
pub moved_ahead : (d : Dir) (u v : Cell) → AreMoved d 1 u v → ahead d u ≡ Some v
moved_ahead d u v h = grind (arith, nat_tests)

-- the other way
moved_back : (d : Dir) (u v : Cell) → AreMoved d 1 u v → AreMoved (opposite d) 1 v u
moved_back d u v h = grind (arith, nat_tests)

moved_forth : (d : Dir) (u v : Cell) → AreMoved (opposite d) 1 v u → AreMoved d 1 u v
moved_forth d u v h = grind (arith, nat_tests)

-- a cell lies ahead of the one behind it, and the other way round
pub ahead_behind : (d : Dir) (u v : Cell) → ahead d u ≡ Some v → ahead (opposite d) v ≡ Some u
ahead_behind d u v h = moved_ahead (opposite d) v u (moved_back d u v (ahead_moved d u v h))

pub behind_ahead : (d : Dir) (u v : Cell) → ahead (opposite d) v ≡ Some u → ahead d u ≡ Some v
behind_ahead d u v h = moved_ahead d u v (moved_forth d u v (ahead_moved (opposite d) v u h))

pub moved_nowhere : (d : Dir) (u : Cell) → AreMoved d 0 u u
moved_nowhere d u = grind (arith, column_trend, row_trend, rising, level, falling)

-- a cell is near the one ahead of it
near_moved : (t : Trend) (a b : ℕ) → IsMoved t 1 a b → (a ≤ b + 1) × (b ≤ a + 1)
near_moved t a b h = grind (arith, nat_tests)

pub is_near-from : (u v : Cell) → u.x ≤ v.x + 1 → v.x ≤ u.x + 1 → u.y ≤ v.y + 1 → v.y ≤ u.y + 1
    → is_near u v ≡ true
is_near-from u v a b c d = grind (arith, nat_tests)

pub is_near-parts : (u v : Cell) → is_near u v ≡ true
    → (u.x ≤ v.x + 1) × (v.x ≤ u.x + 1) × (u.y ≤ v.y + 1) × (v.y ≤ u.y + 1)
is_near-parts u v h = grind arith

pub near_ahead : (d : Dir) (u v : Cell) → ahead d u ≡ Some v → is_near u v ≡ true
near_ahead d u v h = grind (arith, ahead_moved, near_moved, column_trend, row_trend, is_near-from)

pub near_back : (u v : Cell) → is_near u v ≡ true → is_near v u ≡ true
near_back u v h = let p = is_near-parts u v h in is_near-from v u p.1 p.0 p.3 p.2

pub near_itself : (u : Cell) → is_near u u ≡ true
near_itself u = is_near-from u u (omega arith) (omega arith) (omega arith) (omega arith)
