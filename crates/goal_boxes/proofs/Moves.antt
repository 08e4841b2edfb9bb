-- The links of the boxed search: legal moves whose boxes hold the goal.
use Rattle.std.proofs.Common.{◌≡◌, refl, ap, sym, ◌∙◌, Bool, true, false, List, [], ◌∷◌}
use Rattle.std.specs.Prelude.{Option, Some, None, if◌then◌else◌}
use Rattle.root2_cost.specs.declared.Cost.{Cost}
use Rattle.std.proofs.lemmas.Bool.{and_from, or_right}
use Rattle.grid_moves.specs.declared.Cell.{Cell}
use Rattle.grid_moves.specs.declared.Dir.{Dir}
use Rattle.grid_moves.specs.Grid.{GridData, IsGrid, is_free}
use Rattle.grid_moves.specs.Move.{is_legal, move_cost, all_dirs, legal_ahead, dir_cost}
use Rattle.grid_moves.proofs.Legal.{and_both}
use Rattle.grid_moves.proofs.Costs.{cost_there}
use Rattle.search_run.specs.Chain.{IsConsistent}
use Rattle.best_first.specs.declared.state.State.{State}
use Rattle.best_first.specs.State.{start_at}
use Rattle.best_first.specs.Rule.{AreLinks}
use Rattle.best_first.proofs.Links.{consistent}
use Rattle.plain_search.specs.Rule.{plain_step, is_led}
use Rattle.plain_search.proofs.Dropping.{LeadsTo, leads}
use Rattle.plain_search.proofs.Moving.{IsLinked}
use Rattle.plain_search.proofs.Offering.{open_linked, led_ahead}
use Rattle.plain_search.proofs.Posed.{IsAsked}
use Rattle.plain_search.proofs.Walks.{AreMoves, IsMove, link_move, plain_are_links}
use Rattle.grid_moves.proofs.Dirs.{In, first, later, in_all}
use Rattle.goal_boxes.specs.Box.{BoxTeller}
use Rattle.goal_boxes.specs.Offers.{toward}
use Rattle.goal_boxes.specs.Rule.{is_toward, leads_toward, is_toward_by, boxed_step, boxed_links, boxed_rule}

if_some : {A : Type 0} (p : Bool) (x : Option A) (a : A) → (if p then x else None) ≡ Some a
    → (p ≡ true) × (x ≡ Some a)
if_some true x a e = (refl, e)
if_some false x a e = absurd (cc)

module _ (g : GridData) (b : BoxTeller) (t : Cell) where
  -- one direction is among all
  by_list : (u v : Cell) (d : Dir) → leads_toward b t u v d ≡ true → (dirs : List Dir) → In d dirs
      → is_toward_by b t u v dirs ≡ true
  by_list u v d h [] m = elim m [ ]
  by_list u v d h (e ∷ dirs) (first z) = rw h refl
  by_list u v d h (e ∷ dirs) (later z w m) =
      or_right (leads_toward b t u v e) (is_toward_by b t u v dirs) (by_list u v d h dirs m)

  one_toward : (u v : Cell) (d : Dir) → leads_toward b t u v d ≡ true → is_toward_by b t u v all_dirs ≡ true
  one_toward u v d h = by_list u v d h all_dirs (in_all d)

  -- a link is one of the plain engine, toward the goal
  pub step_plain : (u v : State) (c : Cost) → boxed_step g b t u v ≡ Some c
      → plain_step g u v ≡ Some c
  step_plain u v c e =
      (if_some (is_toward_by b t u.cell v.cell all_dirs) (plain_step g u v) c e).1

  pub step_toward : (u v : State) (c : Cost) → boxed_step g b t u v ≡ Some c
      → is_toward_by b t u.cell v.cell all_dirs ≡ true
  step_toward u v c e =
      (if_some (is_toward_by b t u.cell v.cell all_dirs) (plain_step g u v) c e).0

  pub boxed_move : (u v : State) (c : Cost) → boxed_step g b t u v ≡ Some c → IsMove g u v c
  boxed_move u v c e = link_move g u v c (step_plain u v c e)

  pub boxed_are_links : AreLinks g.width g.height (boxed_links g b t)
  boxed_are_links =
      let p = plain_are_links g in
      record {
        lands = λ q u v c e. p.lands q u v c (step_plain u v c e);
        moves = λ q u v c e. p.moves q u v c (step_plain u v c e);
        starts = p.starts;
        priced = λ q u v c e. p.priced q u v c (step_plain u v c e);
      }

  pub boxed_are_moves : AreMoves g (boxed_links g b t)
  boxed_are_moves = record { links = boxed_are_links; moves = λ p. boxed_move }

  -- the octile estimate is fit for the rule
  pub boxed_consistent : IsConsistent (boxed_rule g b t)
  boxed_consistent = consistent g.width g.height t (boxed_links g b t) boxed_are_links

  -- a move toward the goal
  pub record IsToward (c : Cell) (d : Dir) (v : Cell) : Type 0 where
    pub leads : LeadsTo g c d v
    pub held : is_toward t (b c d) ≡ true

  pub toward_is : (c : Cell) (d : Dir) (v : Cell) → toward g b t c d ≡ Some v → IsToward c d v
  toward_is c d v e =
      let p = if_some (is_toward t (b c d)) (legal_ahead g c d) v e in
      record { leads = leads g c d v p.1; held = p.0 }

  -- is a link
  pub toward_linked : (c : Cell) (d : Dir) (v : Cell) → IsToward c d v → IsLinked (boxed_links g b t) c d v
  toward_linked c d v w =
      let plain = open_linked g c d v w.leads in
      let by : is_toward_by b t c v all_dirs ≡ true =
      one_toward c v d (and_from (is_toward t (b c d)) (is_led c v (Some d)) w.held plain.led) in
      record { step = λ p. rw by (plain.step p); led = plain.led }

  -- and so is each move with a box that holds the goal
  pub held_link : (c : Cell) (d : Dir) (v : Cell) → legal_ahead g c d ≡ Some v → is_toward t (b c d) ≡ true
      → boxed_step g b t (start_at c) (start_at v) ≡ Some (move_cost c v)
  held_link c d v e h =
      let l = leads g c d v e in
      (toward_linked c d v (record { leads = l; held = h })).step (start_at c)
      ∙ ap (λ (k : Cost). Some k) (sym (cost_there d c v l.ahead_is))

  -- what leads toward the goal in some direction
  pub record IsTowardBy (c v : Cell) (d : Dir) : Type 0 where
    pub to : toward g b t c d ≡ Some v
    pub priced : move_cost c v ≡ dir_cost d

  pub leads_is : (c v : Cell) (d : Dir) → is_legal g c v ≡ true → leads_toward b t c v d ≡ true
      → IsTowardBy c v d
  leads_is c v d l h =
      let p = and_both (is_toward t (b c d)) (is_led c v (Some d)) h in
      let on = led_ahead c v d p.1 in
      let legal : legal_ahead g c d ≡ Some v = rw (on, l) refl in
      record { to = rw p.0 legal; priced = cost_there d c v on }

-- a boxed search is asked for between free cells
pub boxed_asked : (g : GridData) (b : BoxTeller) (s t : Cell) → IsGrid g → is_free g s ≡ true
    → is_free g t ≡ true
    → IsAsked g s t (boxed_links g b t)
boxed_asked g b s t whole from to =
    record {
      are = boxed_are_moves g b t;
      whole = whole;
      from = from;
      to = to;
      printed = λ p u. refl;
    }
