-- No least walk is left out, so the boxed run answers right.
use Rattle.std.proofs.Common.{◌≡◌, ℕ, ap, ◌∙◌, true, List, [], ◌∷◌}
use Rattle.std.specs.Prelude.{Option, Some, None}
use Rattle.root2_cost.specs.declared.Cost.{Cost}
use Rattle.root2_cost.specs.Order.{IsAtMost}
use Rattle.root2_cost.proofs.AtMost.{IsAtMost-trans}
use Rattle.grid_moves.specs.declared.Cell.{Cell}
use Rattle.grid_moves.specs.declared.Dir.{Dir}
use Rattle.grid_moves.specs.Grid.{GridData, is_free}
use Rattle.grid_moves.specs.Move.{is_legal, is_same, move_cost}
use Rattle.grid_moves.specs.Reply.{StandsForLeast}
use Rattle.grid_moves.specs.Walk.{is_walk, cost_of, last_of, IsWalk, IsLeastWalk, NoWalk}
use Rattle.grid_moves.proofs.Ahead.{legal_ahead-of}
use Rattle.grid_moves.proofs.Legal.{and_both, legal_is, is_same-itself}
use Rattle.grid_moves.proofs.Short.{least_rest}
use Rattle.path_points.specs.declared.points.Walk.{Walk}
use Rattle.path_points.specs.Least.{IsLeastOrNone}
use Rattle.search_run.specs.Chain.{Chain, stays, goes_on}
use Rattle.search_run.specs.Run.{Taken, IsRun}
use Rattle.search_run.proofs.Leastness.{run_is_least, run_finds_all}
use Rattle.best_first.specs.declared.found.Found.{Found}
use Rattle.best_first.specs.declared.state.State.{State}
use Rattle.best_first.specs.State.{start_at}
use Rattle.plain_search.specs.Costs.{IsCostTo, least_cost}
use Rattle.plain_search.proofs.LeastCosts.{cost_is}
use Rattle.plain_search.proofs.Right.{least_way, stands}
use Rattle.goal_boxes.specs.declared.area.Area.{Area}
use Rattle.goal_boxes.specs.Answer.{IsFound, IsExhausted, IsRunBy}
use Rattle.goal_boxes.specs.Box.{BoxTeller, TellsBoxes, IsBox}
use Rattle.goal_boxes.specs.Rule.{is_toward, boxed_links, boxed_rule}
use Rattle.cost_waves.specs.Begin.{Begins}
use Rattle.goal_boxes.proofs.Moves.{boxed_are_moves, boxed_consistent, held_link}

-- the box of a move with which a least walk begins holds where the walk ends
box_holds : (g : GridData) (u t : Cell) (d : Dir) (o : Option Area) → IsBox g u d o → Begins g u t d
    → is_toward t o ≡ true
box_holds g u t d None none w = absurd (none t w)
box_holds g u t d (Some a) box w = box.all t w

-- so a least walk to t is a chain of its cost
pub least_chain : (g : GridData) (b : BoxTeller) (t : Cell) → TellsBoxes g b → (u : Cell) (cells : List Cell)
    → IsLeastWalk g u t cells → Chain (boxed_rule g b t) (start_at u) (start_at (last_of u cells))
    (cost_of (u ∷ cells))
least_chain g b t boxes u [] w = stays (start_at u)
least_chain g b t boxes u (v ∷ cells) w =
    let parts = and_both (is_legal g u v) (is_walk g (v ∷ cells)) w.walk.legal in
    let d = legal_ahead-of g u v parts.0 in
    let begins : Begins g u t d.0 = record { next = v; ahead = d.1; cells = cells; least = w } in
    let held : is_toward t (b u d.0) ≡ true =
    box_holds g u t d.0 (b u d.0) (boxes.boxes u (legal_is g u v parts.0).source d.0) begins in
    goes_on (start_at u) (start_at v) (start_at (last_of v cells)) (move_cost u v) (cost_of (v ∷ cells))
    (λ p. held_link g b t u d.0 v d.1 held) (least_chain g b t boxes v cells (least_rest g u t v cells w))

module _ (g : GridData) (b : BoxTeller) (t : Cell) where
  -- the cost at which the goal is taken is at most that of each walk to it
  at_most_walks : TellsBoxes g b → (s : Cell) (x : Taken State) (earlier : List (Taken State))
      → is_free g s ≡ true
      → IsRun (boxed_rule g b t) (start_at s) (x ∷ earlier) → is_same x.state.cell t ≡ true
      → (others : List Cell)
      → IsWalk g s t others → IsAtMost x.cost (cost_of (s ∷ others))
  at_most_walks boxes s x earlier f is at_goal others o = by_cost (least_cost g s t) (cost_is g s t f)
    where
      by_cost : (cost : Option Cost) → IsCostTo g s t cost → IsAtMost x.cost (cost_of (s ∷ others))
      by_cost None none = absurd (none others o)
      by_cost (Some cost) l =
          let at_t : is_same (last_of s l.cells) t ≡ true =
          ap (λ (c : Cell). is_same c t) l.least.walk.ends ∙ is_same-itself t in
          IsAtMost-trans x.cost (cost_of (s ∷ l.cells)) (cost_of (s ∷ others))
          (run_is_least (boxed_rule g b t) (boxed_consistent g b t) (start_at s)
          (start_at (last_of s l.cells)) x earlier (cost_of (s ∷ l.cells)) is at_goal
          (least_chain g b t boxes s l.cells l.least) at_t).is (l.least.least others o)

  -- where the run ends without the goal no walk leads there
  pub exhausted_none : TellsBoxes g b → (s : Cell) → is_free g s ≡ true → (taken : List ℕ)
      → IsExhausted g b s t taken → NoWalk g s t
  exhausted_none boxes s f taken x = by_cost (least_cost g s t) (cost_is g s t f)
    where
      by_cost : (cost : Option Cost) → IsCostTo g s t cost → NoWalk g s t
      by_cost None none = none
      by_cost (Some cost) l =
          let at_t : is_same (last_of s l.cells) t ≡ true =
          ap (λ (c : Cell). is_same c t) l.least.walk.ends ∙ is_same-itself t in
          absurd (run_finds_all (boxed_rule g b t) (boxed_consistent g b t) (start_at s)
          (start_at (last_of s l.cells)) x.run (cost_of (s ∷ l.cells)) x.is_run x.none_waits x.no_goal
          (least_chain g b t boxes s l.cells l.least) at_t)

  -- what the run found stands for a least walk
  pub found_least : TellsBoxes g b → (s : Cell) (points : List Cell) (cost : Cost) (taken : List ℕ)
      → is_free g s ≡ true → IsFound g b s t points cost taken → StandsForLeast g s t points cost
  found_least boxes s points cost taken free f =
      let at_goal : is_same f.last.state.cell t ≡ true =
      ap (λ (c : Cell). is_same c t) f.at_goal ∙ is_same-itself t in
      stands g t (boxed_links g b t) (boxed_are_moves g b t) s points cost taken f
      (least_way g t (boxed_links g b t) (boxed_are_moves g b t) s f.last f.earlier free f.run
      f.at_goal (at_most_walks boxes s f.last f.earlier free f.run at_goal))

  -- so a run's answer is right
  pub run_least : TellsBoxes g b → (s : Cell) (f : Found) → is_free g s ≡ true → IsRunBy g b s t f
      → IsLeastOrNone g s t f.walk
  run_least boxes s f free run = by_answer f.walk run
    where
      by_answer : (o : Option Walk) → IsRunBy g b s t (record { walk = o; taken = f.taken })
          → IsLeastOrNone g s t o
      by_answer None run = exhausted_none boxes s free f.taken run
      by_answer (Some w) run = found_least boxes s w.points w.cost f.taken free run
