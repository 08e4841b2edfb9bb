-- The points by which the plain engine prints a walk unfold to it.
use Rattle.std.proofs.lemmas.Bool.{cases_Bool}
use Rattle.std.proofs.Common.{◌≡◌, ℕ, suc, ◌+◌, ◌*◌, ◌<◌, ◌≤◌, ◌⊎◌, arith, Bool, true}
use Rattle.std.proofs.Common.{false, refl, ap, sym, ◌∙◌, List, [], ◌∷◌, ◌++◌}
use Rattle.std.specs.Prelude.{Option, Some, option_map, max}
use Rattle.std.proofs.lemmas.Bool.Decides.{nat_tests}
use Rattle.grid_moves.specs.declared.Cell.{Cell}
use Rattle.grid_moves.specs.Grid.{GridData, is_free}
use Rattle.grid_moves.specs.Move.{is_legal}
use Rattle.grid_moves.specs.Walk.{is_walk}
use Rattle.grid_moves.specs.Points.{apart, steps_between, are_lined, toward, step_toward, segment}
use Rattle.grid_moves.specs.Points.{unfolded_from, unfolding_of}
use Rattle.grid_moves.proofs.Legal.{IsLegal, and_both, legal_is, same_cell}
use Rattle.path_points.specs.Corners.{goes_straight, turns_after, corners}

-- from a over b to c at an even pace towards q
toward_back : (a b c q : ℕ) → toward b q ≡ c → a + c ≡ 2 * b → toward a q ≡ b
toward_back a b c q t e = grind (arith, nat_tests)

-- towards q, b lies still or moves on, and a with it
apart_back :
    (a b c q : ℕ) → toward b q ≡ c → a + c ≡ 2 * b
    → ((apart b q ≡ 0) × (apart a q ≡ 0)) ⊎ ((0 < apart b q) × (apart a q ≡ suc (apart b q)))
apart_back a b c q h1 h2 = grind (arith, nat_tests)

-- v lies on one of the eight lines from u, at k + 1 steps, and the first of them leads to w
record Reaches (u w q : Cell) (k : ℕ) : Type 0 where
  lined : are_lined u q ≡ true
  steps : steps_between u q ≡ suc k
  first : step_toward u q ≡ w

-- what are_lined says, on the two distances
lined_apart :
    (u q : Cell) (k : ℕ) → steps_between u q ≡ suc k
    → (apart u.x q.x ≡ 0) ⊎ ((apart u.y q.y ≡ 0) ⊎ (apart u.x q.x ≡ apart u.y q.y))
    → are_lined u q ≡ true
lined_apart u q k h1 h2 = grind (arith, cases_Bool)

apart_lined :
    (u q : Cell) → are_lined u q ≡ true
    → (apart u.x q.x ≡ 0) ⊎ ((apart u.y q.y ≡ 0) ⊎ (apart u.x q.x ≡ apart u.y q.y))
apart_lined u q h1 = grind (arith, nat_tests)

-- neighbours are lined, one step apart
near_step : (m n : ℕ) → m ≤ n + 1 → n ≤ m + 1 → toward m n ≡ n
near_step m n h k = grind (arith, nat_tests)

-- one step further back on the same line
reaches_back : (u v w q : Cell) (k : ℕ) → goes_straight u v w ≡ true → Reaches v w q k → Reaches u v q (suc k)
reaches_back u v w q k h r =
    let columns : u.x + w.x ≡ 2 * v.x = grind (arith, nat_tests) in
    let rows : u.y + w.y ≡ 2 * v.y = grind (arith, nat_tests) in
    let across : toward v.x q.x ≡ w.x = ap (λ (c : Cell). c.x) r.first in
    let along : toward v.y q.y ≡ w.y = ap (λ (c : Cell). c.y) r.first in
    let steps : steps_between u q ≡ suc (suc k) =
    longer (apart_back u.x v.x w.x q.x across columns) (apart_back u.y v.y w.y q.y along rows) r.steps in
    record {
      lined =
          lined_apart u q (suc k) steps
          (lined_on (apart_lined v q r.lined) (apart_back u.x v.x w.x q.x across columns)
          (apart_back u.y v.y w.y q.y along rows) r.steps);
      steps = steps;
      first =
          same_cell (step_toward u q) v (toward_back u.x v.x w.x q.x across columns)
          (toward_back u.y v.y w.y q.y along rows);
    }
  where
    longer :
        {x y z t m : ℕ} → ((x ≡ 0) × (y ≡ 0)) ⊎ ((0 < x) × (y ≡ suc x))
        → ((z ≡ 0) × (t ≡ 0)) ⊎ ((0 < z) × (t ≡ suc z)) → max x z ≡ suc m → max y t ≡ suc (suc m)
    longer h1 h2 h3 = grind (arith, nat_tests)

    lined_on :
        {x y z t m : ℕ} → (x ≡ 0) ⊎ ((z ≡ 0) ⊎ (x ≡ z)) → ((x ≡ 0) × (y ≡ 0)) ⊎ ((0 < x) × (y ≡ suc x))
        → ((z ≡ 0) × (t ≡ 0)) ⊎ ((0 < z) × (t ≡ suc z)) → max x z ≡ suc m
        → (y ≡ 0) ⊎ ((t ≡ 0) ⊎ (y ≡ t))
    lined_on h1 h2 h3 h4 = grind (arith, nat_tests)

-- a legal move reaches its target in one step
reaches_next : (g : GridData) (u v : Cell) → is_legal g u v ≡ true → Reaches u v v 0
reaches_next g u v h =
    let l : IsLegal g u v = legal_is g u v h in
    let steps : steps_between u v ≡ 1 = one l.x_low l.x_high l.y_low l.y_high l.differ in
    record {
      lined = lined_apart u v 0 steps (lined_near l.x_low l.x_high l.y_low l.y_high);
      steps = steps;
      first =
          same_cell (step_toward u v) v (near_step u.x v.x l.x_low l.x_high)
          (near_step u.y v.y l.y_low l.y_high);
    }
  where
    one :
        u.x ≤ v.x + 1 → v.x ≤ u.x + 1 → u.y ≤ v.y + 1 → v.y ≤ u.y + 1 → ((u.x ≡ v.x) → (u.y ≡ v.y) → ⊥)
        → steps_between u v ≡ 1
    one a b c d n = grind arith

    lined_near :
        u.x ≤ v.x + 1 → v.x ≤ u.x + 1 → u.y ≤ v.y + 1 → v.y ≤ u.y + 1
        → (apart u.x v.x ≡ 0) ⊎ ((apart u.y v.y ≡ 0) ⊎ (apart u.x v.x ≡ apart u.y v.y))
    lined_near h1 h2 h3 h4 = grind (arith, nat_tests)

-- the cells from u through a point that is reached in k + 1 steps
unfolded_through :
    (u w q : Cell) (k : ℕ) (points : List Cell) → Reaches u w q k
    → unfolded_from u (q ∷ points) ≡ option_map (λ cells. segment (suc k) u q ++ cells)
    (unfolded_from q points)
unfolded_through u w q k points r = rw (r.lined, r.steps) refl

-- where the first of those steps leads to w
unfolded_over :
    (u w q : Cell) (k : ℕ) (points : List Cell) → Reaches u w q k
    → unfolded_from u (q ∷ points) ≡ option_map (λ cells. w ∷ (segment k w q ++ cells))
    (unfolded_from q points)
unfolded_over u w q k points h1 = grind (arith, cases_Bool, unfolded_through)

map_after :
    (w : Cell) (f : List Cell → List Cell) (o : Option (List Cell)) (cells : List Cell)
    → option_map f o ≡ Some cells → option_map (λ later. w ∷ f later) o ≡ Some (w ∷ cells)
map_after w f o cells h1 = grind (arith, cases_Bool)

-- after u, the turns of the cells from v on unfold to those cells, and the first point lies behind v
record Unfolds (u v : Cell) (cells : List Cell) : Type 0 where
  point : Cell
  points : List Cell
  further : ℕ
  is : turns_after u (v ∷ cells) ≡ point ∷ points
  reaches : Reaches u v point further
  unfolds : unfolded_from u (point ∷ points) ≡ Some (v ∷ cells)

turns_unfold :
    (g : GridData) (u v : Cell) (cells : List Cell) → is_walk g (u ∷ v ∷ cells) ≡ true
    → Unfolds u v cells
turns_unfold g u v [] h =
    let r = reaches_next g u v (and_both (is_legal g u v) (is_free g v) h).0 in
    record {
      point = v;
      points = [];
      further = 0;
      is = refl;
      reaches = r;
      unfolds = unfolded_over u v v 0 [] r;
    }
turns_unfold g u v (w ∷ cells) h = by_test (goes_straight u v w) refl (turns_unfold g v w cells legal.1)
  where
    legal : (is_legal g u v ≡ true) × (is_walk g (v ∷ w ∷ cells) ≡ true)
    legal = and_both (is_legal g u v) (is_walk g (v ∷ w ∷ cells)) h

    by_test : (b : Bool) → goes_straight u v w ≡ b → Unfolds v w cells → Unfolds u v (w ∷ cells)
    by_test true s t =
        let r = reaches_back u v w t.point t.further s t.reaches in
        let again = sym (unfolded_through v w t.point t.further t.points t.reaches) ∙ t.unfolds in
        record {
          point = t.point;
          points = t.points;
          further = suc t.further;
          is = rw s t.is;
          reaches = r;
          unfolds =
              unfolded_over u v t.point (suc t.further) t.points r
              ∙ map_after v (λ later. segment (suc t.further) v t.point ++ later)
              (unfolded_from t.point t.points) (w ∷ cells) again;
        }
    by_test false s t =
        let r = reaches_next g u v legal.0 in
        record {
          point = v;
          points = t.point ∷ t.points;
          further = 0;
          is = rw s (ap (λ (p : List Cell). v ∷ p) t.is);
          reaches = r;
          unfolds =
              unfolded_over u v v 0 (t.point ∷ t.points) r
              ∙ ap (λ (o : Option (List Cell)). option_map (λ cells. v ∷ cells) o) t.unfolds;
        }

-- the corners of a walk unfold to the walk
pub corners_unfold :
    (g : GridData) (cells : List Cell) → is_walk g cells ≡ true
    → unfolding_of (corners cells) ≡ Some cells
corners_unfold g cells h1 = grind (arith, nat_tests, turns_unfold)
