-- Scans on a grid, in each straight direction.
use Rattle.std.proofs.lemmas.Grind.{common_steps}
use Rattle.std.proofs.Common.{◌≡◌, ℕ, suc, ◌+◌, ◌<◌, ◌≤◌, arith, Bool, true, false, ◌||◌}
use Rattle.std.proofs.Common.{refl, ap, sym, ◌∙◌, subst}
use Rattle.std.specs.Prelude.{Option, Some, nat_eq, if◌then◌else◌}
use Rattle.std.proofs.lemmas.Bool.Decides.{nat_tests}
use Rattle.grid_moves.specs.declared.Cell.{Cell}
use Rattle.grid_moves.specs.declared.Corner.{Corner}
use Rattle.grid_moves.specs.declared.Dir.{Dir}
use Rattle.grid_moves.specs.declared.Dir.TheVariants.{N, NE, E, SE, S, SW, W, NW}
use Rattle.grid_moves.specs.Grid.{GridData, is_free, is_inside}
use Rattle.grid_moves.specs.Move.{ahead, is_open, may_cut}
use Rattle.grid_moves.proofs.Legal.{free_inside}
use Rattle.bit_grid.specs.Bits.{is_free_from_one}
use Rattle.pruning.specs.declared.turns.Side.{Side}
use Rattle.pruning.specs.declared.turns.Side.TheVariants.{Right, Left}
use Rattle.pruning.specs.Turns.{is_diagonal, quarter, turn}
use Rattle.jump_plain.specs.declared.beside.Sides.{Sides}
use Rattle.jump_plain.specs.Reach.{moves_to, reach_of, stop_of}
use Rattle.jump_plain.proofs.Straight.{straight_stop}
use Rattle.jump_block.proofs.Runs.{FindsStop, ray_finds}
use Rattle.jump_block.proofs.Scans.{shown}
use Rattle.jump_block.specs.declared.block.Halt.{Halt}
use Rattle.jump_block.specs.declared.straight.Start.{Start}
use Rattle.jump_block.specs.declared.straight.Axis.{Axis}
use Rattle.jump_block.specs.declared.straight.Axis.TheVariants.{Row, Column}
use Rattle.jump_block.specs.declared.straight.Bits.{Bits}
use Rattle.jump_block.specs.declared.word.Way.{Way}
use Rattle.jump_block.specs.declared.word.Way.TheVariants.{Forward, Back}
use Rattle.jump_block.specs.Trail.{Trail, along, at_start, begun, opens, opens_beside, trail_on}
use Rattle.jump_block.specs.Scan.{IsStart, MeetsFrom, MeetsMark, most_lanes}
use Rattle.jump_block.specs.Source as block
use Rattle.jump_block.specs.Source.{AreItsBits, by_line, dir_on, line_of, lines_on, place_of, scanned}
use Rattle.jump_block.specs.Source.{FindsAside, Stops, StopsAt, StopsFrom, start_of, trail_of}

abbrev pub cell : ℕ → ℕ → Cell
cell x y = record { x = x; y = y }

-- the column and the row ahead, counted from 1
abbrev pub column_from_one : Dir → ℕ → ℕ
column_from_one N x = suc x
column_from_one NE x = suc (suc x)
column_from_one E x = suc (suc x)
column_from_one SE x = suc (suc x)
column_from_one S x = suc x
column_from_one SW x = x
column_from_one W x = x
column_from_one NW x = x

abbrev pub row_from_one : Dir → ℕ → ℕ
row_from_one N y = y
row_from_one NE y = y
row_from_one E y = suc y
row_from_one SE y = suc (suc y)
row_from_one S y = suc (suc y)
row_from_one SW y = suc (suc y)
row_from_one W y = suc y
row_from_one NW y = y

one_more : (n : ℕ) → n + 1 ≡ suc n
one_more n = omega arith

same_free : (g : GridData) (x y p q : ℕ) → x ≡ p → y ≡ q → is_free g (cell x y) ≡ is_free g (cell p q)
same_free g x y p q e f = rw (e, f) refl

pub same_from_one : (g : GridData) (x y p q : ℕ) → x ≡ p → y ≡ q
    → is_free_from_one g x y ≡ is_free_from_one g p q
same_from_one g x y p q e f = rw (e, f) refl

-- a cell is open where the border or its neighbour is free
pub open_from_one : (g : GridData) (d : Dir) (x y : ℕ)
    → is_open g (cell x y) d ≡ is_free_from_one g (column_from_one d x) (row_from_one d y)
open_from_one g d x y = grind (arith, nat_tests, common_steps, same_free, one_more)

pub free_from_one : (g : GridData) (x y p q : ℕ) → p ≡ x + 1 → q ≡ y + 1
    → is_free_from_one g p q ≡ is_free g (cell x y)
free_from_one g x y p q e f =
    same_from_one g p q (suc x) (suc y) (e ∙ one_more x) (f ∙ one_more y)

-- nothing is free on the border and beyond
pub border_column : (g : GridData) (y : ℕ) → is_free_from_one g y 0 ≡ false
border_column g y = grind (arith, nat_tests, common_steps)

outside : (g : GridData) (x y : ℕ) → is_inside g (cell x y) ≡ false → is_free g (cell x y) ≡ false
outside g x y h = rw h refl

beyond_columns : (g : GridData) (x y : ℕ) → g.width < x → is_free_from_one g x y ≡ false
beyond_columns g x y h1 = grind (arith, nat_tests, common_steps, outside)

beyond_rows : (g : GridData) (x y : ℕ) → g.height < y → is_free_from_one g x y ≡ false
beyond_rows g x y h1 = grind (arith, nat_tests, common_steps, outside)

-- a scan may start at a free cell, along its row and along its column
module _ (b : Bits) (g : GridData) (x : Cell) (are : AreItsBits b g) (free : is_free g x ≡ true) where
  pub start_on : (axis : Axis)
      → IsStart (lines_on b axis).now (by_line g axis) (line_of axis x) (place_of axis x)
  start_on Row =
      let inside = free_inside g x free in
      let s = are.whole.sides in
      record {
        count = g.height;
        positions = g.width;
        shows = are.rows;
        below = omega arith;
        above = grind (arith, nat_tests);
        starts = free_from_one g x.x x.y (x.x + 1) (x.y + 1) refl refl ∙ free;
        first = refl;
        beyond = λ p h. beyond_columns g p (x.y + 1) h;
        few = let lines = are.rows.bordered in omega arith;
        short = let blocks = are.rows.tight in omega arith;
      }
  start_on Column =
      let inside = free_inside g x free in
      let s = are.whole.sides in
      record {
        count = g.width;
        positions = g.height;
        shows = are.columns;
        below = omega arith;
        above = grind (arith, nat_tests);
        starts = free_from_one g x.x x.y (x.x + 1) (x.y + 1) refl refl ∙ free;
        first = border_column g (x.x + 1);
        beyond = λ p h. beyond_rows g (x.x + 1) p h;
        few = let lines = are.columns.bordered in omega arith;
        short = let blocks = are.columns.tight in omega arith;
      }

same_sides : (a b c d : Bool) → a ≡ c → b ≡ d
    → (let s : Sides = record { right = a; left = b } in s)
    ≡ (let s : Sides = record { right = c; left = d } in s)
same_sides a b c d e f = rw (e, f) refl

-- those with which a scan begins
begins_with : (b : Bool) (a c p q : Bool) → a ≡ p → c ≡ q
    → (let s : Sides = record { right = if b then true else a; left = if b then true else c } in s)
    ≡ (if b then record { right = true; left = true } else record { right = p; left = q })
begins_with b a c p q h1 h2 = grind (arith, nat_tests, common_steps, same_sides)

-- a side of a cell
module _ (g : GridData) (d : Dir) (x y p q : ℕ) where
  pub is_open_there : p ≡ column_from_one d x → q ≡ row_from_one d y
      → is_free_from_one g p q ≡ is_open g (cell x y) d
  is_open_there e f = same_from_one g p q _ _ e f ∙ sym (open_from_one g d x y)

-- along a line: the cells, and what lies to their right and left
abbrev cell_on : Axis → Way → Cell → ℕ → Cell
cell_on Row way x k = cell (along way x.x k) x.y
cell_on Column way x k = cell x.x (along way x.y k)

abbrev side_of : Side → Axis → Way → Trail → ℕ → Bool
side_of Right Row Forward t = t.after
side_of Right Row Back t = t.before
side_of Right Column Forward t = t.before
side_of Right Column Back t = t.after
side_of Left Row Forward t = t.before
side_of Left Row Back t = t.after
side_of Left Column Forward t = t.after
side_of Left Column Back t = t.before

module _ (g : GridData) (x y : ℕ) (axis : Axis) (way : Way) where
  stands_at : cell_on axis way (cell x y) 0 ≡ cell x y
  stands_at = grind (arith, nat_tests, common_steps)

  goes : (k : ℕ) → is_open g (cell_on axis way (cell x y) k) (dir_on axis way) ≡ true
      → ahead (dir_on axis way) (cell_on axis way (cell x y) k) ≡ Some (cell_on axis way (cell x y) (suc k))
  goes k h = grind (arith, nat_tests, common_steps)

  open_is : (k : ℕ) → is_open g (cell_on axis way (cell x y) k) (dir_on axis way)
      ≡ (trail_of g axis way (cell x y)).free (suc k)
  open_is k = grind (arith, nat_tests, common_steps, is_open_there)

  side_begins : (s : Side) → side_of s axis way (trail_of g axis way (cell x y)) 0
      ≡ is_open g (cell x y) (quarter s (dir_on axis way))
  side_begins s = grind (arith, nat_tests, common_steps, is_open_there)

  side_is : (s : Side) (k : ℕ) → side_of s axis way (trail_of g axis way (cell x y)) (suc k)
      ≡ is_open g (cell_on axis way (cell x y) k) (turn s (dir_on axis way))
  side_is s k = grind (arith, nat_tests, common_steps, is_open_there)

alike : (axis : Axis) (way : Way) (r : Corner) (t : Trail) (k : ℕ) → opens_beside (begun r t) k
    ≡ (opens (at_start r (side_of Right axis way t)) k || opens (at_start r (side_of Left axis way t)) k)
alike axis way r t k = grind arith

straight_on : (axis : Axis) (way : Way) → is_diagonal (dir_on axis way) ≡ false
straight_on axis way = grind (arith, nat_tests, common_steps)

line_finds : (g : GridData) (x : Cell) (axis : Axis) (way : Way) → is_free g x ≡ true
    → FindsStop g x (dir_on axis way) g.corner (begun g.corner (trail_of g axis way x))
line_finds g x axis way free =
    let t = trail_of g axis way x in
    let side = side_is g x.x x.y axis way in
    let begins = side_begins g x.x x.y axis way in
    ray_finds g x (dir_on axis way) (straight_on axis way) free (cell_on axis way x) t.free
    (λ k. record {
      right = at_start g.corner (side_of Right axis way t) k;
      left = at_start g.corner (side_of Left axis way t) k;
    })
    (record {
      starts = stands_at g x.x x.y axis way;
      begins = begins_with (may_cut g.corner) _ _ _ _ (begins Right) (begins Left);
      open_is = open_is g x.x x.y axis way;
      goes = goes g x.x x.y axis way;
      sides_are = λ k. same_sides _ _ _ _ (side Right k) (side Left k);
    })
    (begun g.corner t) (alike axis way g.corner t) (λ k. refl)

-- what a scan finds tells where a straight jump stops
module _ (b : Bits) (g : GridData) (x : Cell) (are : AreItsBits b g) (free : is_free g x ≡ true)
    (axis : Axis) (way : Way) (s : Start) (stands : s ≡ start_of b axis x) (rule : Corner)
    (same : rule ≡ b.corner) where
  -- at the start, known by the line
  on_line : (P : Trail → Type 0) → ((free : ℕ → ℕ → Bool) → IsStart s.lines.now free s.line s.place
      → P (trail_on free way s.line s.place)) → P (trail_of g axis way x)
  on_line P known = subst (λ (t : Start). (free : ℕ → ℕ → Bool) → IsStart t.lines.now free t.line t.place
      → P (trail_on free way t.line t.place)) stands known (by_line g axis) (start_on b g x are free axis)

  finds_stop : FindsStop g x (dir_on axis way) rule (begun rule (trail_of g axis way x))
  finds_stop = subst (λ (c : Corner). FindsStop g x (dir_on axis way) c (begun c (trail_of g axis way x)))
      (sym (same ∙ are.rule)) (line_finds g x axis way free)

  stops : (goal : Cell) (to_goal old new : ℕ) (stop : Option ℕ) → to_goal ≡ moves_to (dir_on axis way) x goal
      → StopsAt rule (begun rule (trail_of g axis way x)) to_goal old new stop
      → Stops g goal x (dir_on axis way) old new stop
  stops goal to_goal old new stop e its =
      let known = finds_stop to_goal its.0 its.1 in (
        its.2 ∙ known.0 ∙ ap (λ (n : ℕ). stop_of (reach_of g x (dir_on axis way)) n) e
            ∙ sym (straight_stop g goal x (dir_on axis way) (straight_on axis way)),
        subst (λ (o : Option ℕ). new ≤ old + most_lanes (scanned g x (dir_on axis way) o)) (sym its.2)
            (let within = known.1 in let most = its.3 in omega (arith, within, most)),
      )

  pub stops_there : (goal : Cell) (to_goal old new : ℕ) (stop : Option ℕ)
      → to_goal ≡ moves_to (dir_on axis way) x goal
      → StopsFrom s.lines.now rule way to_goal s.line s.place old new stop
      → Stops g goal x (dir_on axis way) old new stop
  stops_there goal to_goal old new stop e its =
      stops goal to_goal old new stop e (on_line (λ t. StopsAt rule (begun rule t) to_goal old new stop) its)

  pub finds_aside : (old new : ℕ) (marked : Bool)
      → MeetsFrom s.lines.now rule way s.line s.place old new marked
      → FindsAside g x (dir_on axis way) old new marked
  finds_aside old new marked its goal off =
      let met = on_line (λ t. MeetsMark rule (begun rule t) old new marked) its in
      let found : Option Halt = Some (record { passed = met.0; marked = marked }) in (
        block.stop_of rule found 0,
        stops goal 0 old new _ (sym off) (found, met.1, refl, met.2),
        shown rule met.0 marked,
      )

-- a goal in another row and another column is not ahead
pub off_both : (axis : Axis) (way : Way) (u v : Cell) → (nat_eq u.x v.x || nat_eq u.y v.y) ≡ false
    → moves_to (dir_on axis way) u v ≡ 0
off_both axis way u v h1 = grind (arith, nat_tests, common_steps)
