-- Neighbours that are joined where both are free: those on a column or a row, and where a move may pass
-- between two blocked cells, those on a diagonal. Under the other rules a diagonal move passes beside a free
-- cell, over which two straight moves lead. No public clause cites this module.
use Rattle.std.specs.Prelude.{◌≡◌, ◌≢◌, ℕ, ◌+◌, ◌≤◌, ◌⊎◌, Bool, true, false}
use Rattle.grid_moves.specs.declared.Cell.{Cell}

pub record IsLink (eight : Bool) (u v : Cell) : Type 0 where
  pub x_low : u.x ≤ v.x + 1
  pub x_high : v.x ≤ u.x + 1
  pub y_low : u.y ≤ v.y + 1
  pub y_high : v.y ≤ u.y + 1
  pub differ : (u.x ≡ v.x) → (u.y ≡ v.y) → ⊥
  pub lined : (u.x ≡ v.x) ⊎ (u.y ≡ v.y) ⊎ (eight ≡ true)

-- over such neighbours, all of them free, one comes from a cell to t
pub data Chain (eight : Bool) (free : Cell → Bool) (t : Cell) : Cell → Type 0 where
  here : free t ≡ true → Chain eight free t t
  more : (u v : Cell) → free u ≡ true → IsLink eight u v → Chain eight free t v → Chain eight free t u

-- classes of cells, 0 for those that are not free, tell which are joined so
pub record TellsLinked (eight : Bool) (free : Cell → Bool) (class : Cell → ℕ) : Type 0 where
  pub some : (c : Cell) → free c ≡ true → class c ≢ 0
  pub none : (c : Cell) → free c ≡ false → class c ≡ 0
  pub linked : (u v : Cell) → free u ≡ true → free v ≡ true → IsLink eight u v → class u ≡ class v
  pub joined : (u v : Cell) → class u ≢ 0 → class u ≡ class v → Chain eight free v u

-- a cell is of the class of a neighbour that c is linked with
pub record Touches (eight : Bool) (c : Cell) (class : Cell → ℕ) (u : Cell) : Type 0 where
  pub beside : Cell
  pub link : IsLink eight c beside
  pub same : class beside ≡ class u

-- a cell of no class comes to have one: that of the neighbours that it is linked with,
-- which are one from then on
pub record Adds (eight : Bool) (c : Cell) (before later : Cell → ℕ) : Type 0 where
  pub own : later c ≢ 0
  pub some : (u : Cell) → u ≢ c → before u ≢ 0 → later u ≢ 0
  pub none : (u : Cell) → u ≢ c → before u ≡ 0 → later u ≡ 0
  pub kept : (u v : Cell) → u ≢ c → v ≢ c → before u ≡ before v → later u ≡ later v
  pub only : (u v : Cell) → u ≢ c → v ≢ c → before u ≢ 0 → later u ≡ later v
      → (before u ≡ before v) ⊎ (later u ≡ later c)
  pub from : (u : Cell) → u ≢ c → before u ≢ 0 → later u ≡ later c → Touches eight c before u
  pub met : (n : Cell) → n ≢ c → before n ≢ 0 → IsLink eight c n → later n ≡ later c
