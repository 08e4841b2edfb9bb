-- The first steep move from a cell is the first one that climbs.
use Rattle.std.proofs.lemmas.Bool.Decides.{nat_tests}
use Rattle.std.proofs.Common.{◌≡◌, ℕ, zero, suc, ◌+◌, ◌-◌, ◌<◌, ◌≤◌, arith, refl, ap, ◌∙◌, Bool, true, false}
use Rattle.std.proofs.Common.{List, [], ◌∷◌}
use Rattle.std.specs.Prelude.{ℤ, Option, Some, None, option_map, if◌then◌else◌}
use Rattle.std.specs.Option.{option_or}
use Rattle.root2_cost.specs.Rank.{rank_of}
use Rattle.grid_moves.specs.declared.Cell.{Cell}
use Rattle.grid_moves.specs.declared.Dir.{Dir}
use Rattle.grid_moves.specs.declared.Dir.TheVariants.{N, NE, E, SE, S, SW, W, NW}
use Rattle.grid_moves.specs.Grid.{GridData, is_free}
use Rattle.grid_moves.specs.Move.{all_dirs, ahead, legal_ahead, move_cost}
use Rattle.grid_moves.specs.Around.{IsBefore}
use Rattle.potential_check.specs.declared.rising.Column.{Column}
use Rattle.potential_check.specs.declared.rising.Hills.{Hills}
use Rattle.grid_moves.proofs.Ahead.{legal_ahead-is, legal_ahead-ahead}
use Rattle.grid_moves.proofs.Legal.{legal_is}
use Rattle.potential_check.specs.Moves.{failing_move, first_ahead, first_in_row, first_in_rows}
use Rattle.potential_check.specs.Rising.{climbs, is_steep, steep_move, first_steep, towards, height_at}
use Rattle.potential_check.specs.Rising.{IsColumn}
use Rattle.potential_check.proofs.Reaching.{is_before}

-- with its source
abbrev pub with_source : Cell → Option Cell → Option (Cell × Cell)
with_source u o = option_map (λ v. (u, v)) o

with_source-or : (u : Cell) (a b : Option Cell)
    → with_source u (option_or a b) ≡ option_or (with_source u a) (with_source u b)
with_source-or u None b = refl
with_source-or u (Some v) b = refl

module _ (g : GridData) (u : Cell) (height : Cell → ℤ) (from : ℤ) (to : Dir → ℤ) (source : from ≡ height u)
    (right : (d : Dir) (v : Cell) → ahead d u ≡ Some v → to d ≡ height v) where
  one_move : (d : Dir) (o : Option Cell) → legal_ahead g u d ≡ o
      → with_source u (steep_move u from (to d) o) ≡ failing_move (climbs height) u o
  one_move d None e = refl
  one_move d (Some v) e = rw (source, right d v (legal_ahead-ahead g u v d e))
      (by_test (is_steep (height u) (rank_of (move_cost u v)) (height v)))
    where
      by_test : (b : Bool) → with_source u (if b then Some v else None) ≡ (if b then Some (u, v) else None)
      by_test true = refl
      by_test false = refl

  pub steep_ahead : (dirs : List Dir) → with_source u (first_steep g u from to dirs)
      ≡ first_ahead g (climbs height) u dirs
  steep_ahead [] = refl
  steep_ahead (d ∷ dirs) =
      with_source-or u (steep_move u from (to d) (legal_ahead g u d)) (first_steep g u from to dirs)
      ∙ rw (one_move d (legal_ahead g u d) refl, steep_ahead dirs) refl

-- the three columns around a cell have the heights ahead of it
module _ (hills : Hills) (left middle right : Column) where
  some_is : (height : Cell → ℤ) (n : ℤ) (c v : Cell) → n ≡ height c → Some c ≡ Some v → n ≡ height v
  some_is height n c v e s = let same : c ≡ v = cc in e ∙ ap height same

  pub ahead_heights : (x y : ℕ) → ((before : ℕ) → IsBefore x before → IsColumn hills before y left)
      → IsColumn hills x y middle → IsColumn hills (x + 1) y right → (d : Dir) (v : Cell)
      → ahead d (record { x = x; y = y }) ≡ Some v → towards left middle right d ≡ height_at hills v
  ahead_heights x zero l m r N v e = absurd (cc)
  ahead_heights x (suc y) l m r N v e = some_is (height_at hills) _ _ v (m.above y (is_before y)) e
  ahead_heights x zero l m r NE v e = absurd (cc)
  ahead_heights x (suc y) l m r NE v e = some_is (height_at hills) _ _ v (r.above y (is_before y)) e
  ahead_heights x y l m r E v e = some_is (height_at hills) _ _ v r.here e
  ahead_heights x y l m r SE v e = some_is (height_at hills) _ _ v r.below e
  ahead_heights x y l m r S v e = some_is (height_at hills) _ _ v m.below e
  ahead_heights zero y l m r SW v e = absurd (cc)
  ahead_heights (suc x) y l m r SW v e = some_is (height_at hills) _ _ v (l x (is_before x)).below e
  ahead_heights zero y l m r W v e = absurd (cc)
  ahead_heights (suc x) y l m r W v e = some_is (height_at hills) _ _ v (l x (is_before x)).here e
  ahead_heights zero y l m r NW v e = absurd (cc)
  ahead_heights (suc x) zero l m r NW v e = absurd (cc)
  ahead_heights (suc x) (suc y) l m r NW v e =
      some_is (height_at hills) _ _ v ((l x (is_before x)).above y (is_before y)) e

-- so the first steep move from a free cell is the first one that climbs
pub first_climb : (hills : Hills) (left middle right : Column) (x y : ℕ)
    → ((before : ℕ) → IsBefore x before → IsColumn hills before y left) → IsColumn hills x y middle
    → IsColumn hills (x + 1) y right
    → with_source (record { x = x; y = y }) (first_steep hills.grid.now (record { x = x; y = y }) middle.here
    (towards left middle right) all_dirs) ≡ first_ahead hills.grid.now (climbs (height_at hills))
    (record { x = x; y = y }) all_dirs
first_climb hills left middle right x y l m r =
    steep_ahead hills.grid.now (record { x = x; y = y }) (height_at hills) middle.here (towards left middle
    right)
    m.here (ahead_heights hills left middle right x y l m r) all_dirs

-- from a cell that is not free there is none
pub no_climb : (g : GridData) (fails : Cell → Cell → Bool) (u : Cell) (dirs : List Dir)
    → ((d : Dir) → legal_ahead g u d ≡ None) → first_ahead g fails u dirs ≡ None
no_climb g fails u [] none = refl
no_climb g fails u (d ∷ dirs) none = rw (none d) (no_climb g fails u dirs none)

pub no_move : (g : GridData) (u : Cell) (d : Dir) → is_free g u ≡ false → legal_ahead g u d ≡ None
no_move g u d h1 = grind (arith, nat_tests, legal_is, legal_ahead-is)

-- the cells of a row one after the other
pub row_step : (g : GridData) (fails : Cell → Cell → Bool) (y x width : ℕ) → x < width
    → first_in_row g fails y x (width - x) ≡ option_or
    (first_ahead g fails (record { x = x; y = y }) all_dirs) (first_in_row g fails y (x + 1) (width - (x +
    1)))
row_step g fails y x width inside =
    let left : width - x ≡ suc (width - (x + 1)) = omega arith in rw left refl

pub row_end : (g : GridData) (fails : Cell → Cell → Bool) (y x width : ℕ) → width ≤ x
    → first_in_row g fails y x (width - x) ≡ None
row_end g fails y x width past = let left : width - x ≡ zero = omega arith in rw left refl

-- the rows one after the other
pub rows_step : (g : GridData) (fails : Cell → Cell → Bool) (y height : ℕ) → y < height
    → first_in_rows g fails y (height - y) ≡ option_or (first_in_row g fails y 0 g.width)
    (first_in_rows g fails (y + 1) (height - (y + 1)))
rows_step g fails y height inside =
    let left : height - y ≡ suc (height - (y + 1)) = omega arith in rw left refl

pub rows_end : (g : GridData) (fails : Cell → Cell → Bool) (y height : ℕ) → height ≤ y
    → first_in_rows g fails y (height - y) ≡ None
rows_end g fails y height past = let left : height - y ≡ zero = omega arith in rw left refl

-- where the first of two is there, or is not
pub or_first : {X : Type 0} (a b : Option X) (x : X) → a ≡ Some x → option_or a b ≡ Some x
or_first a b x e = rw e refl

pub or_second : {X : Type 0} (a b : Option X) → a ≡ None → option_or a b ≡ b
or_second a b e = rw e refl
