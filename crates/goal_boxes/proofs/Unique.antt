-- Two answers that are the boxed run on one grid are one answer, whichever tells them the boxes.
use Rattle.std.proofs.Common.{◌≡◌, refl, ap, sym, ◌∙◌, subst, Bool, true, false, ◌&&◌, ◌||◌, List, [], ◌∷◌}
use Rattle.std.proofs.Math.Path.{fun_ext}
use Rattle.std.specs.Prelude.{Option, Some, None, if◌then◌else◌}
use Rattle.root2_cost.specs.declared.Cost.{Cost}
use Rattle.grid_moves.specs.declared.Cell.{Cell}
use Rattle.grid_moves.specs.declared.Dir.{Dir}
use Rattle.grid_moves.specs.Grid.{GridData, is_free}
use Rattle.grid_moves.specs.Move.{all_dirs}
use Rattle.grid_moves.proofs.Legal.{legal_is}
use Rattle.path_points.specs.Corners.{corners}
use Rattle.best_first.specs.declared.found.Found.{Found}
use Rattle.best_first.specs.declared.state.State.{State}
use Rattle.best_first.specs.Answer.{IsAnswer}
use Rattle.best_first.specs.Rule.{Links}
use Rattle.best_first.proofs.Answering.{one_answer}
use Rattle.plain_search.specs.Rule.{is_led, plain_links, plain_step}
use Rattle.plain_search.proofs.Walks.{link_move}
use Rattle.cost_waves.specs.Begin.{Begins}
use Rattle.goal_boxes.specs.declared.area.Area.{Area}
use Rattle.goal_boxes.specs.Answer.{IsBoxedRunOn}
use Rattle.goal_boxes.specs.Box.{BoxTeller, TellsBoxes}
use Rattle.goal_boxes.specs.Rule.{boxed_links, boxed_step, is_toward, is_toward_by, leads_toward}
use Rattle.goal_boxes.proofs.Existing.{one_box}
use Rattle.goal_boxes.proofs.Moves.{boxed_are_links}

-- where no link is, a test changes nothing
none_either : (p q : Bool) (o : Option Cost) → o ≡ None → (if p then o else None) ≡ (if q then o else None)
none_either true true o e = refl
none_either true false o e = e
none_either false true o e = sym e
none_either false false o e = refl

-- whoever tells the boxes of the grid, the links are the same
module _ (g : GridData) (t : Cell) (a b : BoxTeller) (p : TellsBoxes g a) (q : TellsBoxes g b) where
  same_box : (u : Cell) → is_free g u ≡ true → (d : Dir) → a u d ≡ b u d
  same_box u free d = one_box (λ c. Begins g u c d) (a u d) (b u d) (p.boxes u free d) (q.boxes u free d)

  same_toward : (u v : Cell) → is_free g u ≡ true → (dirs : List Dir)
      → is_toward_by a t u v dirs ≡ is_toward_by b t u v dirs
  same_toward u v free [] = refl
  same_toward u v free (d ∷ dirs) =
      ap (λ (o : Option Area). (is_toward t o && is_led u v (Some d)) || is_toward_by a t u v dirs)
      (same_box u free d)
      ∙ ap (λ (rest : Bool). leads_toward b t u v d || rest) (same_toward u v free dirs)

  same_step : (u v : State) → boxed_step g a t u v ≡ boxed_step g b t u v
  same_step u v = by_link (plain_step g u v) refl
    where
      by_link : (o : Option Cost) → plain_step g u v ≡ o → boxed_step g a t u v ≡ boxed_step g b t u v
      by_link None e = none_either (is_toward_by a t u.cell v.cell all_dirs)
          (is_toward_by b t u.cell v.cell all_dirs)
          (plain_step g u v) e
      by_link (Some c) e =
          ap (λ (x : Bool). if x then plain_step g u v else None)
          (same_toward u.cell v.cell (legal_is g u.cell v.cell (link_move g u v c e).legal).source all_dirs)

  same_links : boxed_links g a t ≡ boxed_links g b t
  same_links =
      let steps : (λ (u v : State). boxed_step g a t u v) ≡ (λ (u v : State). boxed_step g b t u v) =
      fun_ext (λ u. fun_ext (λ v. same_step u v)) in
      ap (λ (step : State → State → Option Cost).
      let l : Links = record {
        step = λ p. step;
        led = (plain_links g).led;
        arrived = (plain_links g).arrived;
      } in l) steps

pub one_boxed : (g : GridData) (s t : Cell) (r q : Found) → IsBoxedRunOn g s t r
    → IsBoxedRunOn g s t q → r ≡ q
one_boxed g s t r q is also =
    one_answer g.width g.height t (boxed_links g is.box t) (boxed_are_links g is.box t) corners s r q is.run
    (subst (λ (links : Links). IsAnswer g.width t links corners s q)
    (same_links g t also.box is.box also.tells is.tells) also.run)
