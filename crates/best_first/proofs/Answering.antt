-- The answer of a search is that of the run that is made, and no other.
use Rattle.std.proofs.Common.{◌≡◌, ℕ, inl, inr, refl, ap, sym, ◌∙◌, Bool, true, false, ◌||◌, List, [], ◌∷◌}
use Rattle.std.specs.Prelude.{Option, Some, None, slice_get}
use Rattle.root2_cost.specs.declared.Cost.{Cost}
use Rattle.grid_moves.specs.declared.Cell.{Cell}
use Rattle.grid_moves.specs.Move.{is_same}
use Rattle.grid_moves.proofs.Legal.{is_same-cell, is_same-itself}
use Rattle.path_points.specs.declared.points.Walk.{Walk}
use Rattle.search_run.specs.Run.{Taken, IsRun, NoneWaits, has_goal}
use Rattle.search_run.specs.Ended.{IsEnded, IsEndedRun}
use Rattle.search_run.specs.Made.{run_of}
use Rattle.best_first.specs.declared.found.Found.{Found}
use Rattle.best_first.specs.declared.node.Node.{Node}
use Rattle.best_first.specs.declared.state.State.{State}
use Rattle.best_first.specs.declared.state.Layout.{Layout}
use Rattle.best_first.specs.Answer.{IsAnswer, IsFound}
use Rattle.best_first.specs.Made.{answer_of, found_of, states_on_map, answered}
use Rattle.best_first.specs.Node.{state_of}
use Rattle.best_first.specs.Progress.{HasTaken, IsExhausted}
use Rattle.best_first.specs.Rule.{AreLinks, IsSearch, Links, search_rule}
use Rattle.best_first.specs.State.{start_at}
use Rattle.best_first.specs.Table.{Table}
use Rattle.best_first.specs.Trace.{IsWayTo}
use Rattle.best_first.proofs.Ending.{ended_is_run, run_ends}
use Rattle.best_first.proofs.Progress.{way_is}

module _ (width height : ℕ) (goal : Cell) (link : Links) (links : AreLinks width height link)
    (shown : List Cell → List Cell) (start : Cell) where
  -- an ended run whose answer this is
  record EndsWith (f : Found) : Type 0 where
    run : List (Taken State)
    ends : IsEndedRun (search_rule width goal link) (start_at start) run
    answers : f ≡ answer_of width height goal link shown start run

  found_ends : (points : List Cell) (cost : Cost) (taken : List ℕ)
      → IsFound width goal link shown start points cost taken
      → EndsWith (record { walk = Some (record { points = points; cost = cost }); taken = taken })
  found_ends points cost taken is =
      let goal_met : has_goal (search_rule width goal link) (is.last ∷ is.earlier) ≡ true =
      met is.last.state.cell (has_goal (search_rule width goal link) is.earlier) is.at_goal in
      record {
        run = is.last ∷ is.earlier;
        ends = record { is_run = is.run; ended = inl goal_met };
        answers =
            rw (is.along, is.priced, is.numbered) refl
            ∙ ap (answered width height goal link shown start (is.last ∷ is.earlier)) (sym goal_met);
      }
    where
      met : (c : Cell) (b : Bool) → c ≡ goal → (is_same c goal || b) ≡ true
      met c b e = rw (e, is_same-itself goal) refl

  exhausted_ends : (taken : List ℕ) → IsExhausted width goal link start taken
      → EndsWith (record { walk = None; taken = taken })
  exhausted_ends taken is = record {
    run = is.run;
    ends = record { is_run = is.is_run; ended = inr is.none_waits };
    answers = rw is.numbered refl ∙ ap (answered width height goal link shown start is.run) (sym is.no_goal);
  }

  ends_with : (walk : Option Walk) (taken : List ℕ)
      → IsAnswer width goal link shown start (record { walk = walk; taken = taken })
      → EndsWith (record { walk = walk; taken = taken })
  ends_with (Some w) taken is = found_ends w.points w.cost taken is
  ends_with None taken is = exhausted_ends taken is

  -- an answer is that of the run that is made
  pub only_answer : (f : Found) → IsAnswer width goal link shown start f
      → f ≡ found_of width height goal link shown start
  unfolding found_of
  only_answer f is =
      let e = ends_with f.walk f.taken is in
      e.answers
      ∙ ap (answer_of width height goal link shown start)
      (ended_is_run width height goal link links start e.run e.ends)

  -- so two answers are one
  pub one_answer : (f h : Found) → IsAnswer width goal link shown start f
      → IsAnswer width goal link shown start h
      → f ≡ h
  one_answer f h is also = only_answer f is ∙ sym (only_answer h also)

  -- a run that took a goal has it last
  goal_last : (x : Taken State) (earlier : List (Taken State))
      → IsRun (search_rule width goal link) (start_at start) (x ∷ earlier)
      → has_goal (search_rule width goal link) (x ∷ earlier) ≡ true → x.state.cell ≡ goal
  goal_last x earlier is h = is_same-cell x.state.cell goal (by_earlier earlier is h)
    where
      only : (a : Bool) → (a || false) ≡ true → a ≡ true
      only true e = refl
      only false e = e

      by_earlier : (earlier : List (Taken State))
          → IsRun (search_rule width goal link) (start_at start) (x ∷ earlier)
          → (is_same x.state.cell goal || has_goal (search_rule width goal link) earlier) ≡ true
          → is_same x.state.cell goal ≡ true
      by_earlier [] is h = only (is_same x.state.cell goal) h
      by_earlier (y ∷ more) is h = only (is_same x.state.cell goal) (rw is.1 at h)

  -- the answer of a run that ended
  by_end : (run : List (Taken State))
      → IsEndedRun (search_rule width goal link) (start_at start) run → (b : Bool)
      → has_goal (search_rule width goal link) run ≡ b
      → IsAnswer width goal link shown start (answered width height goal link shown start run b)
  by_end [] e b h = absurd e.is_run
  by_end (x ∷ earlier) e true h = record {
    earlier = earlier;
    last = x;
    run = e.is_run;
    at_goal = goal_last x earlier e.is_run h;
    priced = refl;
    along = refl;
    numbered = refl;
  }
  by_end (x ∷ earlier) e false h = record {
    run = x ∷ earlier;
    is_run = e.is_run;
    no_goal = h;
    none_waits = none_left e.ended;
    numbered = refl;
  }
    where
      none_left : IsEnded (search_rule width goal link) (x ∷ earlier)
          → NoneWaits (search_rule width goal link) (x ∷ earlier)
      none_left (inl met) = absurd (cc)
      none_left (inr none) = none

  -- as the run ends, its answer is one
  pub found_answers : IsAnswer width goal link shown start (found_of width height goal link shown start)
  unfolding found_of
  found_answers =
      by_end (run_of (search_rule width goal link) (states_on_map width height) (start_at start))
      (run_ends width height goal link links start)
      (has_goal (search_rule width goal link)
      (run_of (search_rule width goal link) (states_on_map width height) (start_at start))) refl

-- where the last state's node is the goal's, the way back from it is the answer
pub found_back : {layout : Layout} {width height : ℕ} {start goal : Cell} {link : Links}
    (fit : IsSearch width height start goal link) (shown : List Cell → List Cell) {at : ℕ} {k : Table}
    {taken : List ℕ}
    (h : HasTaken layout width goal link start at k taken)
    → ((n : Node) → slice_get k.nodes at ≡ Some n → (state_of layout n).cell ≡ goal)
    → (points way : List Cell) (cost : Cost) → IsWayTo goal k.nodes at way cost → points ≡ shown way
    → IsFound width goal link shown start points cost taken
found_back fit shown h met points way cost w p =
    let is = way_is fit h way cost w in
    record {
      earlier = h.earlier;
      last = h.last;
      run = h.searching.run;
      at_goal =
          ap (λ (s : State). s.cell) (sym h.searching.state) ∙ met h.searching.node h.searching.node_is;
      priced = is.1;
      along = p ∙ ap shown is.0;
      numbered = h.numbered;
    }
