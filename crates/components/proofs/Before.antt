-- What one pass over the cells has told so far.
use Rattle.std.proofs.Common.{◌≡◌, ◌≢◌, ℕ, ◌+◌, ◌<◌, inl, inr, arith, refl, sym, ◌∙◌, subst}
use Rattle.std.proofs.Common.{Bool, true, false, ◌&&◌, ◌||◌}
use Rattle.std.specs.Prelude.{nat_eq, nat_lt}
use Rattle.std.proofs.lemmas.Bool.Decides.{nat_tests}
use Rattle.grid_moves.specs.declared.Cell.{Cell}
use Rattle.grid_moves.specs.Grid.{GridData, is_free}
use Rattle.grid_moves.proofs.Legal.{free_inside, same_cell}
use Rattle.components.specs.Labelling.{is_free_before}
use Rattle.components.specs.Links.{Adds, TellsLinked}
use Rattle.components.proofs.Chains.{freed, one_or_other}
use Rattle.components.proofs.Telling.{tells_alike}

-- a row
pub row_told : (g : GridData) (eight : Bool) (class : Cell → ℕ) (y width : ℕ) → width ≡ g.width
    → TellsLinked eight (is_free_before g y width) class
    → TellsLinked eight (is_free_before g (y + 1) 0) class
row_told g eight class y width e tells =
    tells_alike eight (is_free_before g y width) (is_free_before g (y + 1) 0) class same tells
  where
    tests : (b : Bool) (x z w : ℕ) → (b ≡ true → x < w)
        → (b && (nat_lt z (y + 1) || nat_eq z (y + 1) && nat_lt x 0))
        ≡ (b && (nat_lt z y || nat_eq z y && nat_lt x w))
    tests true x z w h = let k : x < w = h refl in grind (arith, nat_tests)
    tests false x z w h = refl

    same : (c : Cell) → is_free_before g (y + 1) 0 c ≡ is_free_before g y width c
    same c = tests (is_free g c) c.x c.y width
        (λ f. let i : c.x < g.width = (free_inside g c f).0 in omega arith)

-- all rows
pub all_told : (g : GridData) (eight : Bool) (class : Cell → ℕ) (height : ℕ) → height ≡ g.height
    → TellsLinked eight (is_free_before g height 0) class → TellsLinked eight (is_free g) class
all_told g eight class height e tells =
    tells_alike eight (is_free_before g height 0) (is_free g) class same tells
  where
    tests : (b : Bool) (x z h : ℕ) → (b ≡ true → z < h)
        → b ≡ (b && (nat_lt z h || nat_eq z h && nat_lt x 0))
    tests true x z h k = let l : z < h = k refl in grind (arith, nat_tests)
    tests false x z h k = refl

    same : (c : Cell) → is_free g c ≡ is_free_before g height 0 c
    same c = tests (is_free g c) c.x c.y height
        (λ f. let i : c.y < g.height = (free_inside g c f).1 in omega arith)

-- one cell
module _ (g : GridData) (eight : Bool) (c : Cell) (before later : Cell → ℕ)
    (tells : TellsLinked eight (is_free_before g c.y c.x) before) where
  self_out : (b : Bool) (x y : ℕ) → (b && (nat_lt y y || nat_eq y y && nat_lt x x)) ≡ false
  self_out b x y = grind (arith, nat_tests)

  self_in : (x y : ℕ) → (nat_lt y y || nat_eq y y && nat_lt x (x + 1)) ≡ true
  self_in x y = grind (arith, nat_tests)

  apart : (u v x y : ℕ) (b : Bool) → ((u ≡ x) → (v ≡ y) → ⊥)
      → (b && (nat_lt v y || nat_eq v y && nat_lt u (x + 1)))
      ≡ (b && (nat_lt v y || nat_eq v y && nat_lt u x))
  apart u v x y b n = grind (arith, nat_tests)

  others : (u : Cell) → u ≢ c → is_free_before g c.y (c.x + 1) u ≡ is_free_before g c.y c.x u
  others u o = apart u.x u.y c.x c.y (is_free g u) (λ e f. o (same_cell u c e f))

  -- without a class so far
  pub cell_blank : before c ≡ 0
  cell_blank = tells.none c (self_out (is_free g c) c.x c.y)

  pub cell_told : is_free g c ≡ true → Adds eight c before later
      → TellsLinked eight (is_free_before g c.y (c.x + 1)) later
  cell_told f adds = freed eight (is_free_before g c.y c.x) (is_free_before g c.y (c.x + 1)) c
      (self_out (is_free g c) c.x c.y) (rw (f, self_in c.x c.y) refl) others before later tells adds

  pub cell_passed : is_free g c ≡ false → TellsLinked eight (is_free_before g c.y (c.x + 1)) before
  cell_passed f = tells_alike eight (is_free_before g c.y c.x) (is_free_before g c.y (c.x + 1)) before
      same tells
    where
      shut : (x y w : ℕ) (b : Bool) → b ≡ false → (b && (nat_lt y y || nat_eq y y && nat_lt x w)) ≡ false
      shut x y w b e = rw e refl

      same : (u : Cell) → is_free_before g c.y (c.x + 1) u ≡ is_free_before g c.y c.x u
      same u = elim (one_or_other u c) [
        | inl e ↦ subst (λ (v : Cell). is_free_before g c.y (c.x + 1) v ≡ is_free_before g c.y c.x v) (sym e)
            (shut c.x c.y (c.x + 1) (is_free g c) f ∙ sym (shut c.x c.y c.x (is_free g c) f))
        | inr o ↦ others u o
      ]
