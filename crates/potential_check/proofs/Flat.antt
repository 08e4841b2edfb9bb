-- Where no move would climb, were it legal, no legal move does.
use Rattle.std.proofs.lemmas.Bool.Decides.{nat_tests}
use Rattle.std.proofs.Common.{◌≡◌, ℕ, zero, suc, ◌⊎◌, inl, inr, Bool, false, refl, sym, ap, ◌∙◌}
use Rattle.std.proofs.Common.{w64, to_z, of_z, arith}
use Rattle.std.specs.Prelude.{Option, Some, None, ℤ, FitsSigned}
use Rattle.std.proofs.lemmas.Int.{to_z-of_z}
use Rattle.root2_cost.specs.Rank.{rank_of}
use Rattle.grid_moves.specs.declared.Cell.{Cell}
use Rattle.grid_moves.specs.declared.Dir.{Dir}
use Rattle.grid_moves.specs.declared.Dir.TheVariants.{N, NE, E, SE, S, SW, W, NW}
use Rattle.grid_moves.specs.Around.{IsBefore}
use Rattle.grid_moves.specs.Grid.{GridData}
use Rattle.grid_moves.specs.Move.{all_dirs, before, column_ahead, legal_ahead, move_cost, row_ahead}
use Rattle.potential_check.specs.Rising.{first_steep, is_steep, steep_move}

-- an optional number is this one, if there is one
abbrev pub IsAtMostOne : Option ℕ → ℕ → Type 0
IsAtMostOne o n = (o ≡ Some n) ⊎ (o ≡ None)

pub one_before : (m n : ℕ) → IsBefore m n → IsAtMostOne (before m) n
one_before zero n is = inr refl
one_before (suc m) n is = let same : m ≡ n = omega (arith, is.some) in inl (ap (λ (k : ℕ). Some k) same)

-- a move in a direction, towards a cell that it would lead to
pub flat_ahead : (g : GridData) (u : Cell) (d : Dir) (x y : ℕ) (from to : ℤ)
    → IsAtMostOne (column_ahead d u.x) x → IsAtMostOne (row_ahead d u.y) y
    → is_steep from (rank_of (move_cost u (record { x = x; y = y }))) to ≡ false
    → steep_move u from to (legal_ahead g u d) ≡ None
flat_ahead g u d x y from to h1 h2 h3 = grind (arith, nat_tests)

-- a test of heights that fit
pub flat_passed : (cost : ℕ) (from to : ℤ) (result : Bool) → FitsSigned w64 from → FitsSigned w64 to
    → result ≡ is_steep (to_z w64 (of_z w64 from)) cost (to_z w64 (of_z w64 to)) → result ≡ false
    → is_steep from cost to ≡ false
flat_passed cost from to result f g is none =
    sym (is ∙ ap (λ h. is_steep h cost (to_z w64 (of_z w64 to))) (to_z-of_z w64 from f)
    ∙ ap (λ h. is_steep from cost h) (to_z-of_z w64 to g)) ∙ none

-- none of eight
pub none_steep : (g : GridData) (u : Cell) (from : ℤ) (to : Dir → ℤ)
    → steep_move u from (to N) (legal_ahead g u N) ≡ None
    → steep_move u from (to NE) (legal_ahead g u NE) ≡ None
    → steep_move u from (to E) (legal_ahead g u E) ≡ None
    → steep_move u from (to SE) (legal_ahead g u SE) ≡ None
    → steep_move u from (to S) (legal_ahead g u S) ≡ None
    → steep_move u from (to SW) (legal_ahead g u SW) ≡ None
    → steep_move u from (to W) (legal_ahead g u W) ≡ None
    → steep_move u from (to NW) (legal_ahead g u NW) ≡ None
    → first_steep g u from to all_dirs ≡ None
none_steep g u from to n ne e se s sw w nw = rw (n, ne, e, se, s, sw, w, nw) refl
