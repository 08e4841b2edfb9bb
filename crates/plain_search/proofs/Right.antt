-- The plain run answers right: its way is a least walk, and it ends without the goal only where no walk leads
-- there.
use Rattle.std.proofs.lemmas.Grind.{common_steps}
use Rattle.std.proofs.Common.{arith}
use Rattle.std.proofs.lemmas.Bool.Decides.{nat_tests}
use Rattle.std.proofs.Common.{◌≡◌, ℕ, refl, ap, sym, ◌∙◌, subst, true, false, List, [], ◌∷◌, ◌++◌, map}
use Rattle.root2_cost.specs.declared.Cost.{Cost}
use Rattle.root2_cost.specs.Order.{IsAtMost}
use Rattle.root2_cost.specs.Sums.{add_costs}
use Rattle.grid_moves.specs.declared.Cell.{Cell}
use Rattle.grid_moves.specs.Grid.{GridData, is_free}
use Rattle.grid_moves.specs.Move.{is_same, move_cost}
use Rattle.grid_moves.specs.Points.{unfolding_of}
use Rattle.grid_moves.specs.Reply.{StandsForLeast}
use Rattle.grid_moves.specs.Walk.{cost_of, last_of, IsLeastWalk, IsWalk, NoWalk}
use Rattle.grid_moves.proofs.Legal.{is_same-itself}
use Rattle.grid_moves.proofs.Walks.{Goes, one_more}
use Rattle.path_points.specs.Corners.{corners}
use Rattle.path_points.specs.Least.{IsLeastOrNone}
use Rattle.path_points.proofs.Corners.{corners_unfold}
use Rattle.search_run.specs.Run.{Rule, Taken, IsIn, here, there, IsRun, way_to, is_taken}
use Rattle.search_run.proofs.Leastness.{least_offer-from, is_taken-member, run_is_least, run_finds_all}
use Rattle.best_first.specs.declared.found.Found.{Found}
use Rattle.best_first.specs.declared.state.State.{State}
use Rattle.best_first.specs.Answer as answer
use Rattle.best_first.specs.Rule.{Links, search_rule}
use Rattle.best_first.specs.State.{is_same_state, start_at}
use Rattle.best_first.proofs.Links.{consistent}
use Rattle.best_first.proofs.States.{is_same_state-state, is_same_state-itself, same_or_not}
use Rattle.plain_search.specs.Rule.{plain_links, plain_rule}
use Rattle.plain_search.specs.Answer.{IsFound, IsExhausted, IsPlainRun}
use Rattle.plain_search.proofs.Walks.{AreMoves, goes_nowhere, plain_are_moves, plain_consistent, walk_chain}

-- the cells of these states
abbrev pub cells_of : List State → List Cell
cells_of way = map (λ s. s.cell) way

cells-last : (way : List State) (s : State) → cells_of (way ++ s ∷ []) ≡ cells_of way ++ s.cell ∷ []
cells-last [] s = refl
cells-last (u ∷ way) s = ap (λ (cs : List Cell). u.cell ∷ cs) (cells-last way s)

-- the way to a taken state is a walk of the cost at which it was taken
pub record HasWay (g : GridData) (r : Rule State) (s : Cell) (run : List (Taken State)) (v : State)
    (cost : Cost)
    : Type 0 where
  pub cells : List Cell
  pub is_way : cells_of (way_to r run v) ≡ s ∷ cells
  pub goes : Goes g s v.cell cells cost

-- the way to the state that was taken last is a least walk to t
pub record HasLeast (g : GridData) (t : Cell) (r : Rule State) (s : Cell) (x : Taken State)
    (earlier : List (Taken State))
    : Type 0 where
  pub cells : List Cell
  pub is_way : cells_of (way_to r (x ∷ earlier) x.state) ≡ s ∷ cells
  pub least : IsLeastWalk g s t cells
  pub priced : cost_of (s ∷ cells) ≡ x.cost

-- of a search whose links are legal moves
module _ (g : GridData) (t : Cell) (link : Links) (are : AreMoves g link) where
  abbrev rule : Rule State
  rule = search_rule g.width t link

  -- the way of an earlier state stays the same
  way_stays : (x : Taken State) (earlier : List (Taken State)) (v : State)
      → is_taken rule earlier x.state ≡ false → is_taken rule earlier v ≡ true
      → is_same_state x.state v ≡ false
  way_stays x earlier v h1 h2 = grind (arith, nat_tests, same_or_not, is_same_state-state)

  pub way : (s : Cell) (run : List (Taken State)) → is_free g s ≡ true → IsRun rule (start_at s) run
      → (u : Taken State) → IsIn u run → HasWay g rule s run u.state u.cost
  way s [] f is u m = absurd is
  way s (x ∷ []) f is u (there z e m) = elim m [ ]
  way s (x ∷ []) f is u (here e) =
      subst (λ (w : Taken State). HasWay g rule s (w ∷ []) w.state w.cost) (sym is) (record {
        cells = [];
        is_way = rw (is_same_state-itself (start_at s)) refl;
        goes = goes_nowhere g s f;
      })
  way s (x ∷ y ∷ earlier) f is u (here e) =
      let from = least_offer-from rule (y ∷ earlier) x.state (record { cost = x.cost; from = x.parent })
      is.2.offered in
      let before = way s (y ∷ earlier) f is.0 from.by from.member in
      let moved = are.moves from.by.parent from.by.state x.state from.offered.step from.offered.linked in
      let goes : Goes g s x.state.cell (before.cells ++ (x.state.cell ∷ []))
      (add_costs from.by.cost (move_cost from.by.state.cell x.state.cell)) = one_more g s from.by.state.cell
      x.state.cell before.cells from.by.cost before.goes moved.legal in
      let cost : add_costs from.by.cost (move_cost from.by.state.cell x.state.cell) ≡ x.cost =
      ap (λ (c : Cost). add_costs from.by.cost c) (sym moved.cost) ∙ sym from.offered.total in
      let at_parent : cells_of (way_to rule (y ∷ earlier) x.parent) ≡ s ∷ before.cells =
      ap (λ (c : State). cells_of (way_to rule (y ∷ earlier) c)) from.offered.source ∙ before.is_way in
      record {
        cells = before.cells ++ (x.state.cell ∷ []);
        is_way = rw (is_same_state-itself x.state)
            (cells-last (way_to rule (y ∷ earlier) x.parent) x.state
            ∙ ap (λ (w : List Cell). w ++ (x.state.cell ∷ [])) at_parent);
        goes = subst (λ (c : Cost). Goes g s x.state.cell (before.cells ++ (x.state.cell ∷ [])) c) cost goes;
      }
  way s (x ∷ y ∷ earlier) f is u (there z e m) =
      let other : is_same_state x.state u.state ≡ false = way_stays x (y ∷ earlier) u.state is.2.waits
      (is_taken-member rule (consistent g.width g.height t link are.links) (y ∷ earlier) u m) in
      let before = way s (y ∷ earlier) f is.0 u m in
      record { cells = before.cells; is_way = rw other before.is_way; goes = before.goes }

  -- where no walk to the goal undercuts it, the way to the goal is a least walk
  pub least_way : (s : Cell) (x : Taken State) (earlier : List (Taken State)) → is_free g s ≡ true
      → IsRun rule (start_at s) (x ∷ earlier) → x.state.cell ≡ t
      → ((others : List Cell) → IsWalk g s t others → IsAtMost x.cost (cost_of (s ∷ others)))
      → HasLeast g t rule s x earlier
  least_way s x earlier f is e most =
      let w = way s (x ∷ earlier) f is x (here earlier) in
      record {
        cells = w.cells;
        is_way = w.is_way;
        least = record {
          walk = record { legal = w.goes.legal; ends = w.goes.ends ∙ e };
          least = λ others o.
              subst (λ (c : Cost). IsAtMost c (cost_of (s ∷ others))) (sym w.goes.priced) (most others o);
        };
        priced = w.goes.priced;
      }

  -- and the points of the answer stand for it
  pub stands : (s : Cell) (points : List Cell) (cost : Cost) (taken : List ℕ)
      → (f : answer.IsFound g.width t link corners s points cost taken)
      → HasLeast g t rule s f.last f.earlier → StandsForLeast g s t points cost
  stands s points cost taken f w =
      let corners_are : points ≡ corners (s ∷ w.cells) = f.along ∙ ap corners w.is_way in
      record {
        cells = w.cells;
        unfolds = ap unfolding_of corners_are ∙ corners_unfold g (s ∷ w.cells) w.least.walk.legal;
        least = w.least;
        priced = w.priced ∙ sym f.priced;
      }

module _ (g : GridData) (s t : Cell) where
  pub way_is_least : (x : Taken State) (earlier : List (Taken State)) → is_free g s ≡ true
      → IsRun (plain_rule g t) (start_at s) (x ∷ earlier) → x.state.cell ≡ t
      → HasLeast g t (plain_rule g t) s x earlier
  way_is_least x earlier f is e =
      let at_goal : is_same x.state.cell t ≡ true = ap (λ (c : Cell). is_same c t) e ∙ is_same-itself t in
      least_way g t (plain_links g) (plain_are_moves g) s x earlier f is e (λ others o.
      let chain = walk_chain g t s others o.legal in
      let at_t : is_same (last_of s others) t ≡ true =
      ap (λ (c : Cell). is_same c t) o.ends ∙ is_same-itself t in
      (run_is_least (plain_rule g t) (plain_consistent g t) (start_at s) (start_at (last_of s others)) x
      earlier (cost_of (s ∷ others)) is at_goal chain at_t).is)

  -- where the run ends without the goal no walk leads there
  pub exhausted_none : (taken : List ℕ) → IsExhausted g s t taken → NoWalk g s t
  exhausted_none taken x = λ cells w.
      let at_t : is_same (last_of s cells) t ≡ true =
      ap (λ (c : Cell). is_same c t) w.ends ∙ is_same-itself t in
      run_finds_all (plain_rule g t) (plain_consistent g t) (start_at s) (start_at (last_of s cells)) x.run
      (cost_of (s ∷ cells)) x.is_run x.none_waits x.no_goal (walk_chain g t s cells w.legal) at_t

  -- what the run found stands for a least walk
  pub found_least : (points : List Cell) (cost : Cost) (taken : List ℕ) → is_free g s ≡ true
      → IsFound g s t points cost taken → StandsForLeast g s t points cost
  found_least points cost taken free f =
      stands g t (plain_links g) (plain_are_moves g) s points cost taken f
      (way_is_least f.last f.earlier free f.run f.at_goal)

  -- so a run's answer is right
  pub run_least : (f : Found) → is_free g s ≡ true → IsPlainRun g s t f → IsLeastOrNone g s t f.walk
  run_least f h1 h2 = grind (arith, common_steps, exhausted_none, found_least)
