-- Rows that fit one another: how long those are that a loop over a row reads, and what such loops tell.
use Rattle.std.specs.Prelude.{◌≡◌, ℕ, ◌-◌, ◌<◌, ◌≤◌, ℤ, Bool, List, length}
use Rattle.grid_moves.specs.declared.Corner.{Corner}
use Rattle.grid_moves.specs.declared.Dir.{Dir}
use Rattle.plus_tables.specs.declared.rows.Three.{Three}
use Rattle.plus_tables.specs.declared.rows.Ahead.{Ahead}
use Rattle.plus_tables.specs.Rows.{AreEntriesBelow, IsEntryAlong}

-- a row of n places has one before the first column of a map and one after the last
pub record HasBorder (n : ℕ) : Type 0 where
  pub some : 2 ≤ n
  pub few : n < 65536

-- each of three rows has n places
pub record AreLong {A : Type 0} (n : ℕ) (one other third : List A) : Type 0 where
  pub one_is : length one ≡ n
  pub other_is : length other ≡ n
  pub third_is : length third ≡ n

-- what tells a row by the next one fits a row of n places
pub record FitAcross (n : ℕ) (rows : Three) (forced : List Bool) (next : Ahead) : Type 0 where
  pub border : HasBorder n
  pub rows_are : AreLong n rows.ahead.now rows.here.now rows.behind.now
  pub forced_is : length forced ≡ n
  pub next_are : AreLong n next.ahead.now next.right.now next.left.now

-- so does what tells a row along itself
pub record FitAlong (n : ℕ) (here forced : List Bool) : Type 0 where
  pub border : HasBorder n
  pub here_is : length here ≡ n
  pub forced_is : length forced ≡ n

-- the entries of all columns are made from those of the next row
abbrev pub AreEntriesAcross : Corner → Three → List Bool → Ahead → Dir → List ℤ → Type 0
AreEntriesAcross corner rows forced next d out =
    AreEntriesBelow corner rows.ahead.now rows.here.now rows.behind.now
    forced next.ahead.now next.right.now next.left.now d out (length out - 2)

-- or by those of the next column
abbrev pub AreEntriesAlong : List Bool → List Bool → Dir → List ℤ → Type 0
AreEntriesAlong here forced d out = (x : ℕ) → x < length out - 2 → IsEntryAlong here forced d out x
