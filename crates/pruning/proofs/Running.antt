-- The cells of a legal run: they lie on a line, and make a walk of its cost.
use Rattle.std.proofs.Common.{◌≡◌, ℕ, zero, suc, ◌+◌, ◌≤◌, arith, true, refl, ap, sym, ◌∙◌, subst}
use Rattle.std.proofs.Common.{List, [], ◌∷◌, ◌||◌}
use Rattle.std.specs.Prelude.{⊤, Option, Some, None, option_and_then, nat_eq, max}
use Rattle.std.proofs.lemmas.Bool.Decides.{nat_tests}
use Rattle.grid_moves.specs.declared.Cell.{Cell}
use Rattle.grid_moves.specs.declared.Dir.{Dir}
use Rattle.grid_moves.specs.declared.Dir.TheVariants.{N, NE, E, SE, S, SW, W, NW}
use Rattle.grid_moves.specs.Grid.{GridData, is_free}
use Rattle.grid_moves.specs.Move.{ahead, cell_after, legal_ahead}
use Rattle.grid_moves.specs.Walk.{is_walk, cost_of, last_of}
use Rattle.grid_moves.specs.Points.{apart, steps_between, are_lined, toward, step_toward, segment}
use Rattle.grid_moves.proofs.Legal.{legal_is, same_cell}
use Rattle.grid_moves.proofs.Costs.{cost_there}
use Rattle.pruning.specs.Marked.{run_end}
use Rattle.pruning.specs.Chain.{run_cost}
use Rattle.pruning.proofs.Bridging.{Leads, legal_leads, one_of}
use Rattle.pruning.proofs.Chaining.{run_cost-next, run_cost-nothing}

-- how a column or a row changes along a run
pub data Trend : Type 0 where
  rising : Trend
  level : Trend
  falling : Trend

abbrev pub column_trend : Dir → Trend
column_trend N = level
column_trend NE = rising
column_trend E = rising
column_trend SE = rising
column_trend S = level
column_trend SW = falling
column_trend W = falling
column_trend NW = falling

abbrev pub row_trend : Dir → Trend
row_trend N = falling
row_trend NE = falling
row_trend E = level
row_trend SE = rising
row_trend S = rising
row_trend SW = rising
row_trend W = level
row_trend NW = falling

-- from a to b in k moves
abbrev pub IsMoved : Trend → ℕ → ℕ → ℕ → Type 0
IsMoved rising k a b = b ≡ a + k
IsMoved level k a b = b ≡ a
IsMoved falling k a b = a ≡ b + k

not_moved : (t : Trend) (a : ℕ) → IsMoved t 0 a a
not_moved t a = grind (arith, nat_tests)

moved_on : (t : Trend) (k a z b : ℕ) → IsMoved t 1 a z → IsMoved t k z b → IsMoved t (suc k) a b
moved_on t k a z b h1 h2 = grind (arith, nat_tests)

-- the first move goes towards the end
toward_moved : (t : Trend) (k a z b : ℕ) → IsMoved t 1 a z → IsMoved t k z b → toward a b ≡ z
toward_moved t k a z b h1 h2 = grind (arith, nat_tests)

abbrev pub AreMoved : Dir → ℕ → Cell → Cell → Type 0
AreMoved d k u v = IsMoved (column_trend d) k u.x v.x × IsMoved (row_trend d) k u.y v.y

-- the cell after so many moves
pub moved_to : (d : Dir) (k : ℕ) (u v : Cell) → AreMoved d k u v → v ≡ cell_after d k u
moved_to d k u v h = grind (arith, nat_tests)

abbrev IsStepped : Dir → Cell → Option Cell → Type 0
IsStepped d u None = ⊤
IsStepped d u (Some v) = AreMoved d 1 u v

stepped : (x y : ℕ) (d : Dir) → IsStepped d (record { x = x; y = y }) (ahead d (record { x = x; y = y }))
stepped x y d = grind (arith, nat_tests)

pub ahead_moved : (d : Dir) (u v : Cell) → ahead d u ≡ Some v → AreMoved d 1 u v
ahead_moved d u v h = subst (λ (o : Option Cell). IsStepped d u o) h (stepped u.x u.y d)

-- how far the ends of a run are apart
abbrev span : Trend → ℕ → ℕ
span rising k = k
span level k = 0
span falling k = k

apart_moved : (t : Trend) (k a b : ℕ) → IsMoved t k a b → apart a b ≡ span t k
apart_moved t k a b h1 = grind (arith, nat_tests)

longer : (d : Dir) (k : ℕ) → max (span (column_trend d) k) (span (row_trend d) k) ≡ k
longer d k = grind (arith, nat_tests)

pub steps_moved : (d : Dir) (k : ℕ) (u v : Cell) → AreMoved d k u v → steps_between u v ≡ k
steps_moved d k u v m = grind (arith, nat_tests, apart_moved, longer)

-- one of the three kinds of lines
on_line : (d : Dir) (k : ℕ) (u v : Cell) → AreMoved d k u v
    → (nat_eq u.x v.x || nat_eq u.y v.y || nat_eq (span (column_trend d) k) (span (row_trend d) k)) ≡ true
on_line d k u v h1 = grind (arith, nat_tests)

pub lined_moved : (d : Dir) (k : ℕ) (u v : Cell) → 1 ≤ k → AreMoved d k u v → are_lined u v ≡ true
lined_moved d k u v h m = grind (arith, nat_tests, steps_moved, apart_moved, on_line)

-- a legal run as a walk
pub record IsRun (g : GridData) (d : Dir) (k : ℕ) (x u : Cell) : Type 0 where
  pub cells : List Cell
  pub walks : is_walk g (x ∷ cells) ≡ true
  pub ends : last_of x cells ≡ u
  pub free : is_free g u ≡ true
  pub priced : cost_of (x ∷ cells) ≡ run_cost d k
  pub filled : segment k x u ≡ cells
  pub moved : AreMoved d k x u

run_of_none : (g : GridData) (d : Dir) (x u : Cell) → is_free g x ≡ true → x ≡ u → IsRun g d 0 x u
run_of_none g d x u f e = subst (λ (v : Cell). IsRun g d 0 x v) e (record {
  cells = [];
  walks = f;
  ends = refl;
  free = f;
  priced = sym (run_cost-nothing d);
  filled = refl;
  moved = (not_moved (column_trend d) x.x, not_moved (row_trend d) x.y);
})

run_with_one : (g : GridData) (d : Dir) (k : ℕ) (x y u : Cell) → Leads g x y d → IsRun g d k y u
    → IsRun g d (suc k) x u
run_with_one g d k x y u l r =
    let m = ahead_moved d x y l.ahead_is in
    let next : step_toward x u ≡ y = grind (arith, nat_tests, same_cell, toward_moved) in
    record {
      cells = y ∷ r.cells;
      walks = rw (l.legal, r.walks) refl;
      ends = r.ends;
      free = r.free;
      priced = rw (cost_there d x y l.ahead_is, r.priced) (sym (run_cost-next d k));
      filled = ap (λ (c : Cell). c ∷ segment k c u) next ∙ ap (λ (cs : List Cell). y ∷ cs) r.filled;
      moved = grind (arith, nat_tests, moved_on);
    }

pub run_walked : (g : GridData) (d : Dir) (k : ℕ) (x u : Cell) → is_free g x ≡ true
    → run_end g d k x ≡ Some u → IsRun g d k x u
run_walked g d zero x u f h = run_of_none g d x u f (one_of x u h)
run_walked g d (suc k) x u f h = by_cell (legal_ahead g x d) refl h
    (λ y l h. run_with_one g d k x y u l (run_walked g d k y u (legal_is g x y l.legal).target h))
  where
    by_cell : (o : Option Cell) → legal_ahead g x d ≡ o
        → option_and_then (λ y. run_end g d k y) o ≡ Some u
        → ((y : Cell) → Leads g x y d → run_end g d k y ≡ Some u → IsRun g d (suc k) x u)
        → IsRun g d (suc k) x u
    by_cell o h1 h2 h3 = grind (arith, nat_tests, legal_leads)
