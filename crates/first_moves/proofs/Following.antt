-- The walk of first moves.
use Rattle.std.proofs.lemmas.Bool.Decides.{nat_tests}
use Rattle.std.proofs.Common.{◌≡◌, ◌+◌, ◌*◌, ◌<◌, arith, refl, ap, sym, ◌∙◌, subst, Bool, true, false, List}
use Rattle.std.proofs.Common.{[], ◌∷◌, ◌++◌}
use Rattle.std.proofs.lemmas.List.{append_assoc}
use Rattle.std.specs.Prelude.{Option, Some, None, not, if◌then◌else◌, IfSome}
use Rattle.root2_cost.specs.declared.Cost.{Cost}
use Rattle.root2_cost.specs.Sums.{add_costs, no_cost}
use Rattle.root2_cost.proofs.Sums.{add_costs-assoc, add_costs-no_cost_right, no_cost_at_most}
use Rattle.grid_moves.specs.declared.Cell.{Cell}
use Rattle.grid_moves.specs.declared.Dir.{Dir}
use Rattle.grid_moves.specs.Grid.{GridData, is_free, is_inside}
use Rattle.grid_moves.specs.Move.{ahead, is_same, legal_ahead, move_cost}
use Rattle.grid_moves.specs.Points.{unfolding_of}
use Rattle.grid_moves.specs.Reply.{StandsForLeast}
use Rattle.grid_moves.specs.Walk.{IsLeastWalk, cost_of}
use Rattle.grid_moves.proofs.Ahead.{legal_ahead-is, legal_ahead-ahead}
use Rattle.grid_moves.proofs.Legal.{and_both, is_same-cell, is_same-itself, legal_is}
use Rattle.grid_moves.proofs.Short.{least_rest, least_steps, move_counts}
use Rattle.path_points.specs.Corners.{corners, goes_straight, turns_after}
use Rattle.path_points.proofs.Corners.{corners_unfold}
use Rattle.grid_moves.proofs.Walks.{steps-cost_of}
use Rattle.cost_waves.proofs.Falling.{goes_over, least_on}
use Rattle.first_moves.specs.First.{IsFirstMove}
use Rattle.first_moves.specs.Follow.{LeadsTo, IsNext, AreFirst, IsFollowed}

-- the next cell, where there is a first move
pub next_some : (g : GridData) (s t : Cell) (d : Dir) (r : Option Cell) → IsFirstMove g s t (Some d)
    → r ≡ legal_ahead g s d → IsNext g s t r
next_some g s t d r f e =
    subst (λ (o : Option Cell). IsNext g s t o) (sym (e ∙ f.0.ahead))
    (record { dir = d; first = f; ahead = f.0.ahead })

-- so a first move leads to the cell ahead
pub next_ahead : (g : GridData) (s t : Cell) (d : Dir) (r : Option Cell) → IsFirstMove g s t (Some d)
    → r ≡ ahead d s → IsNext g s t r
next_ahead g s t d r f e =
    next_some g s t d r f (e ∙ legal_ahead-ahead g s f.0.next d f.0.ahead ∙ sym f.0.ahead)

-- it lies on the map
pub next_inside : (g : GridData) (s : Cell) (d : Dir) (r : Option Cell) → r ≡ legal_ahead g s d
    → IfSome r (λ v. is_inside g v ≡ true)
next_inside g s d None e = tt
next_inside g s d (Some v) e =
    (and_both (is_inside g v) _ (legal_is g s v (legal_ahead-is g s v d (sym e))).target).0

-- and so does the next cell
pub inside_next : (g : GridData) (s t : Cell) (r : Option Cell) → IsNext g s t r
    → IfSome r (λ v. is_inside g v ≡ true)
inside_next g s t None n = tt
inside_next g s t (Some v) n = next_inside g s n.dir (Some v) (sym n.ahead)

-- a first move goes on over any least walk from its end
pub over_first : (g : GridData) (s t v : Cell) → LeadsTo g s t v → (rest : List Cell) → IsLeastWalk g v t rest
    → IsLeastWalk g s t (v ∷ rest)
over_first g s t v l rest w = least_on g s v t l.dir rest l.ahead l.first.0 w

-- On the way of first moves from s to t, after at least one move: what any cells that follow make of it.
pub record IsUnderWay (g : GridData) (s t before at : Cell) (points : List Cell) (cost : Cost) : Type 0 where
  pub way : List Cell
  pub first : (rest : List Cell) → AreFirst g t at rest → AreFirst g t s (way ++ rest)
  pub least : (rest : List Cell) → IsLeastWalk g at t rest → IsLeastWalk g s t (way ++ rest)
  pub turns : (rest : List Cell) → corners (s ∷ (way ++ rest)) ≡ points ++ turns_after before (at ∷ rest)
  pub paid : (rest : List Cell) → cost_of (s ∷ (way ++ rest)) ≡ add_costs cost (cost_of (at ∷ rest))
  pub left : List Cell
  pub goes_on : IsLeastWalk g at t left

-- after the first move
pub set_out : (g : GridData) (s t v : Cell) → LeadsTo g s t v
    → IsUnderWay g s t s v (s ∷ []) (move_cost s v)
set_out g s t v l =
    let over = goes_over g s v t l.dir l.ahead l.first.0 in
    record {
      way = v ∷ [];
      first = λ rest f. (l, f);
      least = over_first g s t v l;
      turns = λ rest. refl;
      paid = λ rest. refl;
      left = over.cells;
      goes_on = least_rest g s t v over.cells over.least;
    }

-- one move more
pub one_on : (g : GridData) (s t before at v : Cell) (points points1 : List Cell) (cost : Cost)
    → IsUnderWay g s t before at points cost → LeadsTo g at t v
    → points1 ≡ (if goes_straight before at v then points else points ++ (at ∷ []))
    → IsUnderWay g s t at v points1 (add_costs cost (move_cost at v))
one_on g s t before at v points points1 cost w l e =
    let over = goes_over g at v t l.dir l.ahead l.first.0 in
    record {
      way = w.way ++ (v ∷ []);
      first = λ rest f. subst (λ (c : List Cell). AreFirst g t s c) (sym (joined rest))
          (w.first (v ∷ rest) (l, f));
      least = λ rest f. subst (λ (c : List Cell). IsLeastWalk g s t c) (sym (joined rest))
          (w.least (v ∷ rest) (over_first g at t v l rest f));
      turns = λ rest. ap (λ (c : List Cell). corners (s ∷ c)) (joined rest) ∙ w.turns (v ∷ rest)
          ∙ by_test rest (goes_straight before at v) refl
          ∙ ap (λ (p : List Cell). p ++ turns_after at (v ∷ rest)) (sym e);
      paid = λ rest. ap (λ (c : List Cell). cost_of (s ∷ c)) (joined rest) ∙ w.paid (v ∷ rest)
          ∙ sym (add_costs-assoc cost (move_cost at v) (cost_of (v ∷ rest)));
      left = over.cells;
      goes_on = least_rest g at t v over.cells over.least;
    }
  where
    joined : (rest : List Cell) → w.way ++ (v ∷ []) ++ rest ≡ w.way ++ (v ∷ rest)
    joined rest = append_assoc w.way (v ∷ []) rest

    by_test : (rest : List Cell) (b : Bool) → goes_straight before at v ≡ b
        → points ++ turns_after before (at ∷ v ∷ rest)
        ≡ (if goes_straight before at v then points else points ++ (at ∷ [])) ++ turns_after at (v ∷ rest)
    by_test rest true s = rw s refl
    by_test rest false s = rw s (sym (append_assoc points (at ∷ []) (turns_after at (v ∷ rest))))

-- the moves so far
pub few_moves : (g : GridData) (s t before at : Cell) (points : List Cell) (cost : Cost)
    → IsUnderWay g s t before at points cost → (at ≡ t → ⊥) → cost.a + cost.b + 1 < g.height * g.width
few_moves g s t before at points cost w apart = by_left w.left w.goes_on
  where
    by_left : (left : List Cell) → IsLeastWalk g at t left → cost.a + cost.b + 1 < g.height * g.width
    by_left [] l = absurd (apart l.walk.ends)
    by_left (v ∷ left) l =
        let whole = w.least (v ∷ left) l in
        let short = least_steps g s t (w.way ++ (v ∷ left)) whole in
        let all = steps-cost_of s (w.way ++ (v ∷ left)) in
        let rest = steps-cost_of at (v ∷ left) in
        let sum = rw (w.paid (v ∷ left)) at all in
        omega (arith, short, sum, rest)

-- where s is t, no move is needed
nowhere : (g : GridData) (s t : Cell) → is_free g s ≡ true → s ≡ t → IsLeastWalk g s t []
nowhere g s t free e = record {
  walk = record { legal = free; ends = e };
  least = λ others o. no_cost_at_most (cost_of (s ∷ others));
}

pub no_move : (g : GridData) (s t : Cell) → is_free g s ≡ true → s ≡ t → IsFollowed g s t (s ∷ []) no_cost
no_move g s t free e =
    record { cells = []; first = tt; least = nowhere g s t free e; turns = refl; priced = refl }

-- the goal is reached
pub arrived : (g : GridData) (s t before at : Cell) (points points1 : List Cell) (cost : Cost)
    → IsUnderWay g s t before at points cost → at ≡ t → is_free g t ≡ true → points1 ≡ points ++ (at ∷ [])
    → IsFollowed g s t points1 cost
arrived g s t before at points points1 cost w e free p = record {
  cells = w.way ++ [];
  first = w.first [] tt;
  least = w.least [] (nowhere g at t (subst (λ (c : Cell). is_free g c ≡ true) (sym e) free) e);
  turns = p ∙ sym (w.turns []);
  priced = w.paid [] ∙ add_costs-no_cost_right cost;
}

-- such points stand for a least walk
pub stands : (g : GridData) (s t : Cell) (points : List Cell) (cost : Cost) → IsFollowed g s t points cost
    → StandsForLeast g s t points cost
stands g s t points cost f = record {
  cells = f.cells;
  unfolds = ap (λ (p : List Cell). unfolding_of p) f.turns
      ∙ corners_unfold g (s ∷ f.cells) f.least.walk.legal;
  least = f.least;
  priced = f.priced;
}

-- the same, from what the code has
pub counts_one : (u v : Cell) (cost : Cost) → cost ≡ move_cost u v → cost.a + cost.b ≡ 1
counts_one u v cost e = subst (λ (c : Cost). c.a + c.b ≡ 1) (sym e) (move_counts u v)

pub set_out_by : (g : GridData) (s t v : Cell) (none points : List Cell) (cost : Cost)
    → LeadsTo g s t v → none ≡ []
    → points ≡ none ++ (s ∷ []) → cost ≡ move_cost s v → IsUnderWay g s t s v points cost
set_out_by g s t v none points cost l n p c =
    let is : points ≡ s ∷ [] = p ∙ ap (λ (q : List Cell). q ++ (s ∷ [])) n in
    subst (λ (q : List Cell). IsUnderWay g s t s v q cost) (sym is)
    (subst (λ (k : Cost). IsUnderWay g s t s v (s ∷ []) k) (sym c) (set_out g s t v l))

pub one_on_by : (g : GridData) (s t before at v : Cell) (points points1 : List Cell) (cost move cost1 : Cost)
    → IsUnderWay g s t before at points cost → LeadsTo g at t v
    → points1 ≡ (if goes_straight before at v then points else points ++ (at ∷ []))
    → move ≡ move_cost at v → cost1 ≡ add_costs cost move → IsUnderWay g s t at v points1 cost1
one_on_by g s t before at v points points1 cost move cost1 w l p m c =
    subst (λ (k : Cost). IsUnderWay g s t at v points1 k) (sym (c ∙ ap (λ (k : Cost). add_costs cost k) m))
    (one_on g s t before at v points points1 cost w l p)

pub counts_more : (u v : Cell) (cost move cost1 : Cost) → move ≡ move_cost u v → cost1 ≡ add_costs cost move
    → cost1.a + cost1.b ≡ cost.a + cost.b + 1
counts_more u v cost move cost1 m c =
    let one = counts_one u v move m in
    subst (λ (k : Cost). k.a + k.b ≡ cost.a + cost.b + 1) (sym c) (omega (arith, one))

pub no_move_by : (g : GridData) (s t : Cell) (none points : List Cell) → is_free g s ≡ true → s
    ≡ t → none ≡ []
    → points ≡ none ++ (s ∷ []) → IsFollowed g s t points no_cost
no_move_by g s t none points free e n p =
    let is : points ≡ s ∷ [] = p ∙ ap (λ (q : List Cell). q ++ (s ∷ [])) n in
    subst (λ (q : List Cell). IsFollowed g s t q no_cost) (sym is) (no_move g s t free e)

-- a test that cells differ
pub apart_by : (u v : Cell) (r : Bool) → r ≡ not (is_same u v) → r ≡ true → u ≡ v → ⊥
apart_by u v r h1 h2 h3 = grind (arith, nat_tests, is_same-itself)

pub same_by : (u v : Cell) (r : Bool) → r ≡ not (is_same u v) → r ≡ false → u ≡ v
same_by u v r h1 h2 = grind (arith, nat_tests, is_same-cell)
