-- Turns from one direction to another, by an eighth of a circle to a side.
use Rattle.grid_moves.specs.declared.Dir.{Dir}
pub use Rattle.grid_moves.specs.Move.{is_diagonal}
use Rattle.grid_moves.specs.declared.Dir.TheVariants.{N, NE, E, SE, S, SW, W, NW}
use Rattle.pruning.specs.declared.turns.Side.{Side}
use Rattle.pruning.specs.declared.turns.Side.TheVariants.{Right, Left}

-- the next direction to that side, an eighth of a circle on
abbrev pub turn : Side → Dir → Dir
turn Right N = NE
turn Right NE = E
turn Right E = SE
turn Right SE = S
turn Right S = SW
turn Right SW = W
turn Right W = NW
turn Right NW = N
turn Left N = NW
turn Left NE = N
turn Left E = NE
turn Left SE = E
turn Left S = SE
turn Left SW = S
turn Left W = SW
turn Left NW = W

-- at right angles, to that side
abbrev pub quarter : Side → Dir → Dir
quarter s d = turn s (turn s d)

-- half-way back, on that side: of a straight d, its reverse and the quarter together
abbrev pub rear : Side → Dir → Dir
rear s d = turn s (quarter s d)
