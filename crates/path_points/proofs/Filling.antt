-- Segments cell by cell, and unfolding point by point.
use Rattle.std.proofs.lemmas.Bool.{cases_Bool}
use Rattle.std.proofs.Common.{◌≡◌, ℕ, zero, suc, ◌+◌, ◌-◌, ◌<◌, arith, true, refl, ap, sym}
use Rattle.std.proofs.Common.{◌∙◌, List, [], ◌∷◌, ◌++◌, append_assoc, length}
use Rattle.std.specs.Prelude.{Option, Some, None, option_map}
use Rattle.std.proofs.lemmas.Bool.Decides.{nat_tests}
use Rattle.grid_moves.specs.declared.Cell.{Cell}
use Rattle.grid_moves.specs.Points.{apart, steps_between, are_lined, toward, step_toward, segment}
use Rattle.grid_moves.specs.Points.{unfolded_from}
use Rattle.grid_moves.specs.Walk.{last_of}
use Rattle.grid_moves.proofs.Legal.{same_cell}

toward_nearer : (m n : ℕ) → apart (toward m n) n ≡ apart m n - 1
toward_nearer m n = grind (arith, nat_tests)

-- each step brings one nearer
pub step_nearer : (u v : Cell) → steps_between (step_toward u v) v ≡ steps_between u v - 1
step_nearer u v = grind (arith, nat_tests, toward_nearer)

-- where no step is left one has arrived
pub arrived : (u v : Cell) → steps_between u v ≡ 0 → u ≡ v
arrived u v h = same_cell u v (omega arith) (omega arith)

-- the next cell of a segment
pub segment_next :
    (n i : ℕ) (u next v : Cell) → i < n → next ≡ step_toward u v
    → segment (n - i) u v ≡ next ∷ segment (n - (i + 1)) next v
segment_next n i u next v h1 h2 = grind (arith, cases_Bool)

-- cells with the next one appended
pub segment_pushed :
    (cells more : List Cell) (n i : ℕ) (u next v : Cell) → i < n → next ≡ step_toward u v
    → more ≡ cells ++ (next ∷ []) → more ++ segment (n - (i + 1)) next v ≡ cells ++ segment (n - i) u v
segment_pushed cells more n i u next v h e f =
    ap (λ (l : List Cell). l ++ segment (n - (i + 1)) next v) f
    ∙ append_assoc cells (next ∷ []) (segment (n - (i + 1)) next v)
    ∙ ap (λ (l : List Cell). cells ++ l) (sym (segment_next n i u next v h e))

map_map :
    (a b : List Cell) (o : Option (List Cell))
    → option_map (λ later. a ++ later) (option_map (λ later. b ++ later) o) ≡ option_map
    (λ later. (a ++ b) ++ later) o
map_map a b None = refl
map_map a b (Some later) =
    ap (λ (l : List Cell). let o : Option (List Cell) = Some l in o) (sym (append_assoc a b later))

-- the next segment of an unfolding
pub unfolded_pushed :
    (cells : List Cell) (u v : Cell) (points : List Cell) → are_lined u v ≡ true
    → option_map (λ later. cells ++ later) (unfolded_from u (v ∷ points)) ≡ option_map
    (λ later. (cells ++ segment (steps_between u v) u v) ++ later) (unfolded_from v points)
unfolded_pushed cells u v points h =
    let e : unfolded_from u (v ∷ points) ≡ option_map (λ later. segment (steps_between u v) u v ++ later)
    (unfolded_from v points) =
    rw h refl in
    ap (λ (o : Option (List Cell)). option_map (λ later. cells ++ later) o) e
    ∙ map_map cells (segment (steps_between u v) u v) (unfolded_from v points)

pub segment-length : (k : ℕ) (u v : Cell) → length (segment k u v) ≡ k
segment-length zero u v = refl
segment-length (suc k) u v = ap suc (segment-length k (step_toward u v) v)

-- a segment of all steps ends in its point
pub segment_last : (k : ℕ) (u v : Cell) → steps_between u v ≡ k → last_of u (segment k u v) ≡ v
segment_last zero u v h = arrived u v h
segment_last (suc k) u v h =
    let nearer = step_nearer u v in
    let left : steps_between (step_toward u v) v ≡ k = omega arith in
    segment_last k (step_toward u v) v left
