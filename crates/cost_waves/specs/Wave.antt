-- What holds while waves go over a map. No public clause cites this module.
use Rattle.std.specs.Prelude.{◌≡◌, ℕ, ◌+◌, ◌*◌, ◌<◌, ◌≤◌, Bool, true, false, nat_lt, if◌then◌else◌, List, []}
use Rattle.std.specs.Prelude.{◌∷◌, length, slice_get, slice_index_or, Some, count_by}
use Rattle.root2_cost.specs.Rank.{rank_of, straight_rank, diagonal_rank}
use Rattle.grid_moves.specs.declared.Cell.{Cell}
use Rattle.grid_moves.specs.declared.Dir.{Dir}
use Rattle.grid_moves.specs.Grid.{GridData, cell_number, is_free, is_inside}
use Rattle.grid_moves.specs.Move.{legal_ahead, all_dirs}
use Rattle.grid_moves.specs.Walk.{IsWalk, cost_of}
use Rattle.cost_waves.specs.declared.front.Source.{Source}
use Rattle.cost_waves.specs.Front.{Front, dir_rank, spread}
use Rattle.cost_waves.specs.Rank.{far, rank_limit}
use Rattle.cost_waves.specs.Stored.{has_dir}

-- the rank of a cell
abbrev pub rank_at : GridData → List ℕ → Cell → ℕ
rank_at g ranks c = slice_index_or ranks (cell_number g.width c) far

-- its byte of directions
abbrev pub dirs_at : GridData → List ℕ → Cell → ℕ
dirs_at g firsts c = slice_index_or firsts (cell_number g.width c) 0

-- a rank is one of a walk that is known
abbrev pub is_known : ℕ → Bool
is_known rank = nat_lt rank rank_limit

-- how many cells are known
abbrev pub known_count : List ℕ → ℕ
known_count ranks = count_by is_known ranks

-- a walk from s to t whose cost has this rank
pub record Way (g : GridData) (s t : Cell) (rank : ℕ) : Type 0 where
  pub cells : List Cell
  pub walk : IsWalk g s t cells
  pub ranked : rank_of (cost_of (s ∷ cells)) ≡ rank

-- one that begins with a move in direction d
pub record WayBy (g : GridData) (s t : Cell) (d : Dir) (rank : ℕ) : Type 0 where
  pub next : Cell
  pub ahead : legal_ahead g s d ≡ Some next
  pub cells : List Cell
  pub walk : IsWalk g s t (next ∷ cells)
  pub ranked : rank_of (cost_of (s ∷ next ∷ cells)) ≡ rank

-- the cell stands in the list
pub record Among (cells : List Cell) (c : Cell) : Type 0 where
  pub place : ℕ
  pub is : slice_get cells place ≡ Some c

-- a cell in the list of the wave whose ranks begin at `low`: its rank lies there or below, and a rank of that
-- wave is not more than diagonal moves over all known cells count
pub record Waits (g : GridData) (low : ℕ) (ranks : List ℕ) (c : Cell) : Type 0 where
  pub free : is_free g c ≡ true
  pub below : rank_at g ranks c < low + straight_rank
  pub reached : low ≤ diagonal_rank * known_count ranks

-- all cells of a list wait for this wave
abbrev pub AllWait : GridData → ℕ → List ℕ → List Cell → Type 0
AllWait g low ranks cells = (j : ℕ) (c : Cell) → slice_get cells j ≡ Some c → Waits g low ranks c

-- a known cell was settled by a wave before, or it stands in the list of its wave
pub data Held (floor : ℕ) (now next after : List Cell) (c : Cell) (rank : ℕ) : Type 0 where
  before : rank < floor → Held floor now next after c rank
  in_now : rank < floor + straight_rank → Among now c → Held floor now next after c rank
  in_next : floor + straight_rank ≤ rank → rank < floor + straight_rank + straight_rank → Among next c
      → Held floor now next after c rank
  in_after : floor + straight_rank + straight_rank ≤ rank
      → rank < floor + straight_rank + straight_rank + straight_rank → Among after c
      → Held floor now next after c rank

-- Of a pass from s, in the wave whose ranks begin at `floor`: each known rank is that of a walk, each stored
-- direction that of a walk of this rank, and each known cell is settled or waits.
pub record Keeps (g : GridData) (s : Cell) (floor : ℕ) (now : List Cell) (f : Front) : Type 0 where
  pub ranked : length f.ranks ≡ g.height * g.width
  pub bytes : length f.firsts ≡ g.height * g.width
  pub home : is_free g s ≡ true
  pub start : rank_at g f.ranks s ≡ 0
  pub quiet : dirs_at g f.firsts s ≡ 0
  pub ways : (c : Cell) → is_inside g c ≡ true → rank_at g f.ranks c < rank_limit
      → Way g s c (rank_at g f.ranks c)
  pub begins : (c : Cell) (d : Dir) → is_inside g c ≡ true → has_dir (dirs_at g f.firsts c) d ≡ true
      → WayBy g s c d (rank_at g f.ranks c)
  pub dirs_reached : (c : Cell) (d : Dir) → is_inside g c ≡ true → has_dir (dirs_at g f.firsts c) d ≡ true
      → rank_at g f.ranks c < rank_limit
  pub held : (c : Cell) → is_inside g c ≡ true → rank_at g f.ranks c < rank_limit
      → Held floor now f.next f.after c (rank_at g f.ranks c)
  pub bounded : (c : Cell) → is_inside g c ≡ true → rank_at g f.ranks c < rank_limit
      → rank_at g f.ranks c + diagonal_rank ≤ diagonal_rank * known_count f.ranks
  pub wait_now : AllWait g floor f.ranks now
  pub wait_next : AllWait g (floor + straight_rank) f.ranks f.next
  pub wait_after : AllWait g (floor + straight_rank + straight_rank) f.ranks f.after

-- the move from u in direction d to v was offered: v is known at no more than over u, and where it costs
-- no less,
-- it has all directions that begin walks over u
pub record IsRelaxed (g : GridData) (s : Cell) (f : Front) (u : Cell) (d : Dir) (v : Cell) : Type 0 where
  pub low : rank_at g f.ranks v ≤ rank_at g f.ranks u + dir_rank d
  pub own : u ≡ s → rank_at g f.ranks v ≡ rank_at g f.ranks u + dir_rank d
      → has_dir (dirs_at g f.firsts v) d ≡ true
  pub same : (e : Dir) → rank_at g f.ranks v ≡ rank_at g f.ranks u + dir_rank d
      → has_dir (dirs_at g f.firsts u) e ≡ true → has_dir (dirs_at g f.firsts v) e ≡ true

-- all moves from the cell were
abbrev pub IsSettled : GridData → Cell → Front → Cell → Type 0
IsSettled g s f u = (d : Dir) (v : Cell) → legal_ahead g u d ≡ Some v → IsRelaxed g s f u d v

-- before a wave: the cells of all waves before are settled
pub record IsReady (g : GridData) (s : Cell) (floor : ℕ) (now : List Cell) (f : Front) : Type 0 where
  pub keeps : Keeps g s floor now f
  pub settled : (u : Cell) → is_inside g u ≡ true → rank_at g f.ranks u < floor → IsSettled g s f u

-- in a wave, after so many cells of its list
pub record IsMidway (g : GridData) (s : Cell) (floor : ℕ) (now : List Cell) (done : ℕ)
    (f : Front) : Type 0 where
  pub ready : IsReady g s floor now f
  pub settled : (j : ℕ) (u : Cell) → j < done → slice_get now j ≡ Some u → IsSettled g s f u

-- it is the wave of some pass
pub record HasReady (g : GridData) (floor : ℕ) (now : List Cell) (f : Front) : Type 0 where
  pub start : Cell
  pub ready : IsReady g start floor now f

-- the front when no cell waits
abbrev pub ended : List ℕ → List ℕ → Front
ended ranks firsts = record { ranks = ranks; firsts = firsts; next = []; after = [] }

-- the pass is over: no cell waits
pub record IsSwept (g : GridData) (s : Cell) (ranks firsts : List ℕ) : Type 0 where
  pub floor : ℕ
  pub ready : IsReady g s floor [] (ended ranks firsts)

-- what settling a cell does in the wave whose ranks begin at `floor`
abbrev pub source_at : GridData → Cell → Front → Source
source_at g c f = record { cell = c; rank = rank_at g f.ranks c; start = false; first = dirs_at g f.firsts c }

abbrev pub settled : GridData → ℕ → Cell → Front → Front
settled g floor c f =
    if nat_lt (rank_at g f.ranks c) floor then f
    else spread g (floor + 2 * straight_rank) (source_at g c f) all_dirs f
