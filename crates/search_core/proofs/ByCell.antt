-- With one state for each cell the run of jumps misses no least walk: it is one of the searches of one_state,
-- and every one of these ends right.
use Rattle.std.proofs.Common.{◌≡◌, ℕ, inl, inr, refl, ap, sym, ◌∙◌, subst, true, false, List, [], ◌∷◌}
use Rattle.std.specs.Prelude.{Option, Some, None, map, reverse}
use Rattle.std.proofs.lemmas.Bool.{or_parts}
use Rattle.root2_cost.specs.declared.Cost.{Cost}
use Rattle.root2_cost.specs.Sums.{add_costs, no_cost}
use Rattle.root2_cost.proofs.Most.{Most, Most-then, Most-same, Most-add_right}
use Rattle.grid_moves.specs.declared.Cell.{Cell}
use Rattle.grid_moves.specs.declared.Dir.{Dir}
use Rattle.grid_moves.specs.Grid.{GridData, is_free}
use Rattle.grid_moves.specs.Move.{is_same}
use Rattle.grid_moves.specs.Points.{estimate}
use Rattle.grid_moves.specs.Walk.{NoWalk}
use Rattle.grid_moves.specs.Reply.{StandsForLeast}
use Rattle.grid_moves.proofs.Legal.{is_same-itself}
use Rattle.pruning.specs.Allowed.{come_to}
use Rattle.pruning.specs.Chain.{run_cost}
use Rattle.pruning.specs.First.{first_stop}
use Rattle.pruning.proofs.Running.{run_walked}
use Rattle.search_run.specs.Run.{Rule, Taken, IsIn, IsNext, IsRun, has_goal, is_taken}
use Rattle.search_run.specs.Run as run
use Rattle.search_run.proofs.Leastness.{least_offer-from, no_goal, is_taken-member, relaxed, WaitsAt}
use Rattle.path_points.specs.declared.points.Walk.{Walk}
use Rattle.best_first.specs.declared.found.Found.{Found}
use Rattle.best_first.specs.declared.state.Layout.TheVariants.{ByCell}
use Rattle.best_first.specs.declared.state.State.{State}
use Rattle.best_first.specs.State.{start_at, arrived_in, state_number}
use Rattle.one_state.specs.Search.{Search, IsSound, HasCell, IsOffered, Offers, begun, further, as_reached}
use Rattle.one_state.specs.Search as search
use Rattle.one_state.proofs.Estimates.{octile_is_consistent}
use Rattle.one_state.proofs.Right.{goal_least, none_left}
use Rattle.one_state.proofs.Stopping.{first_is_in_time, first_there, is_the-tells}
use Rattle.one_state.proofs.Sums.{Below-then, Below-same, of_costs, signed_sum}
use Rattle.search_core.specs.OneState.{IsBySuch, search_by_cell}
use Rattle.search_core.specs.Answer.{IsFound, IsExhausted, IsJumpRun}
use Rattle.search_core.specs.Jumps.{come_in, jump_rule, state_at}
use Rattle.search_core.proofs.Arrivals.{shown}
use Rattle.search_core.proofs.Links.{step_is, link_step, jump_is_link, allowed_free, run_arrived_so}
use Rattle.search_core.proofs.Links.{start_arrived, seen_start}
use Rattle.search_core.proofs.Right.{found_least_so}
use Rattle.search_core.proofs.Ways.{stop_of, linked_jump, jumps_consistent}

-- a taken state with how it was come to, its cost, and the cell of its parent
abbrev reached : Taken State → search.Taken
reached u = record { state = stop_of (shown ByCell u); cost = u.cost; parent = u.parent.cell }

-- one of the taken states is one of what was reached, and back
is_reached : (run : List (Taken State)) (u : Taken State) → IsIn u run
    → search.IsIn (reached u) (map reached run)
is_reached [] u m = elim m [ ]
is_reached (x ∷ earlier) u (run.here e) = search.here (map reached earlier)
is_reached (x ∷ earlier) u (run.there z e m) =
    search.there (reached x) (map reached earlier) (is_reached earlier u m)

record WasTaken (run : List (Taken State)) (w : search.Taken) : Type 0 where
  by : Taken State
  member : IsIn by run
  is : reached by ≡ w

was_taken : (run : List (Taken State)) (w : search.Taken) → search.IsIn w (map reached run)
    → WasTaken run w
was_taken [] w m = elim m [ ]
was_taken (x ∷ earlier) w (search.here e) = record { by = x; member = run.here earlier; is = refl }
was_taken (x ∷ earlier) w (search.there z e m) =
    let t = was_taken earlier w m in
    record { by = t.by; member = run.there x earlier t.member; is = t.is }

module _ (g : GridData) (s t : Cell) where
  abbrev rule : Rule State
  rule = jump_rule ByCell g t

  abbrev p : Search
  p = search_by_cell g s t

  -- a taken state is its cell's one
  all_seen : (run : List (Taken State)) → IsRun rule (start_at s) run → (u : Taken State) → IsIn u run
      → start_at u.state.cell ≡ u.state
  all_seen [] is u m = absurd is
  all_seen (x ∷ []) is u (run.here e) = subst
      (λ (w : Taken State). start_at w.state.cell ≡ w.state) (sym is) refl
  all_seen (x ∷ []) is u (run.there z e m) = elim m [ ]
  all_seen (x ∷ y ∷ earlier) is u (run.here e) =
      let from = least_offer-from rule (y ∷ earlier) x.state
      (record { cost = x.cost; from = x.parent }) is.2.offered in
      seen_start x.state (step_is ByCell g t from.by.parent from.by.state x.state from.offered.step
      from.offered.linked).seen
  all_seen (x ∷ y ∷ earlier) is u (run.there z e m) = all_seen (y ∷ earlier) is.0 u m

  -- where no goal was taken, none has its cell
  not_there : (run : List (Taken State)) → has_goal rule run ≡ false → ¬ HasCell (map reached run) t
  not_there run none h =
      let w = was_taken run h.by h.member in
      let no = no_goal rule (jumps_consistent ByCell g t) run w.by none w.member in
      let at : w.by.state.cell ≡ t = ap (λ (r : search.Taken). r.state.cell) w.is ∙ h.is in
      let yes : is_same w.by.state.cell t ≡ true =
      subst (λ (c : Cell). is_same c t ≡ true) (sym at) (is_same-itself t) in
      absurd (cc)

  -- what is offered waits, at no more
  offer_waits : (run : List (Taken State)) → IsRun rule (start_at s) run → has_goal rule run ≡ false
      → (z : search.Taken) → IsOffered p (map reached run) z → WaitsAt rule run (start_at z.state.cell) z.cost
  offer_waits run is none z o =
      let w = was_taken run o.by o.member in
      let lead : Offers p (reached w.by) z =
      subst (λ (r : search.Taken). Offers p r z) (sym w.is) o.offers in
      let d = lead.dir in
      let walked = run_walked g d lead.moves w.by.state.cell z.state.cell
      (allowed_free g (shown ByCell w.by) d lead.hop.allowed) lead.hop.reached in
      let arrives = run_arrived_so ByCell w.by.state d lead.moves z.state.cell
      lead.hop.some walked.moved in
      let link = link_step ByCell g t w.by.parent w.by.state (start_at z.state.cell)
      (run_cost d lead.moves) refl
      (jump_is_link g t (shown ByCell w.by) (arrived_in ByCell w.by.state (start_at z.state.cell)) d
      lead.moves (ap (λ (u : State). u.arrival) arrives) lead.hop.allowed
      (is_the-tells lead.moves (first_stop g t w.by.state.cell d) lead.stops_there) lead.hop.reached) in
      elim (relaxed rule (jumps_consistent ByCell g t) (start_at s) run is w.by (start_at z.state.cell)
      (run_cost d lead.moves) w.member
      (no_goal rule (jumps_consistent ByCell g t) run w.by none w.member) link) [
        | inl taken ↦ absurd (o.fresh (record {
          by = reached taken.by;
          member = is_reached run taken.by taken.member;
          is = ap (λ (u : State). u.cell) taken.is;
        }))
        | inr waits ↦ record {
          offer = waits.offer;
          waits = waits.waits;
          most = Most-then waits.most (Most-same (sym lead.priced));
        }
      ]

  -- what is taken next is offered, and nothing at a lesser sum
  least_next : (x : Taken State) (run : List (Taken State)) → IsRun rule (start_at s) run
      → has_goal rule run ≡ false → IsNext rule run x → search.IsNext p (map reached run) (reached x)
  least_next x run is none next =
      let from = least_offer-from rule run x.state (record { cost = x.cost; from = x.parent }) next.offered in
      let step = step_is ByCell g t from.by.parent from.by.state x.state from.offered.step
      from.offered.linked in
      let jump = linked_jump g t (shown ByCell from.by) (arrived_in ByCell from.by.state x.state)
      from.offered.step step.jump in
      let offers : Offers p (reached from.by) (record {
        state = stop_of (arrived_in ByCell from.by.state x.state);
        cost = x.cost;
        parent = from.by.state.cell;
      }) = record {
        dir = step.jump.dir;
        moves = step.jump.moves;
        hop = record {
          allowed = jump.allowed;
          some = jump.first.in_range;
          no_stop_before = jump.first.least;
          reached = jump.reached;
          arrives = jump.arrives;
        };
        stops_there = first_there g t (as_reached (reached from.by)) step.jump.dir step.jump.moves jump.first;
        priced = from.offered.total ∙ ap (λ (c : Cost). add_costs from.by.cost c) step.jump.priced;
        parent = refl;
      } in
      record {
        offered = record {
          by = reached from.by;
          member = is_reached run from.by from.member;
          offers = subst (λ (q : State). Offers p (reached from.by) (record {
            state = stop_of (arrived_in ByCell q x.state);
            cost = x.cost;
            parent = q.cell;
          })) (sym from.offered.source) offers;
          fresh = λ h.
              let w = was_taken run h.by h.member in
              let same : w.by.state ≡ x.state = sym (all_seen run is w.by w.member)
              ∙ ap start_at (ap (λ (r : search.Taken). r.state.cell) w.is ∙ h.is)
              ∙ seen_start x.state step.seen in
              let yes : is_taken rule run x.state ≡ true =
              subst (λ (u : State). is_taken rule run u ≡ true) same
              (is_taken-member rule (jumps_consistent ByCell g t) run w.by w.member) in
              let no = next.waits in
              absurd (cc);
        };
        least = λ z o.
            let w = offer_waits run is none z o in
            let most : Most (add_costs x.cost (estimate x.state.cell t))
            (add_costs z.cost (estimate z.state.cell t)) =
            Most-then (record {
              is = (or_parts _ _ (next.first (start_at z.state.cell) w.offer w.waits.untaken
                  w.waits.offered)).0;
            })
            (Most-add_right (estimate z.state.cell t) w.offer.cost z.cost w.most) in
            (Below-then (Below-same (sym (signed_sum x.cost (estimate x.state.cell t))))
            (Below-then (of_costs most) (Below-same (signed_sum z.cost (estimate z.state.cell t))))).is;
      }

  -- so the run is one of these searches'
  pub are_taken : (run : List (Taken State)) → IsRun rule (start_at s) run → search.IsRun p (map reached run)
  are_taken [] is = absurd is
  are_taken (x ∷ []) is =
      subst (λ (w : Taken State). search.IsRun p (reached w ∷ [])) (sym is)
      (subst (λ (u : State). search.IsRun p (record { state = stop_of u; cost = no_cost; parent = s } ∷ []))
      (sym (start_arrived ByCell s)) begun)
  are_taken (x ∷ y ∷ earlier) is = further (reached x) (map reached (y ∷ earlier))
      (are_taken (y ∷ earlier) is.0) (not_there (y ∷ earlier) is.1)
      (least_next x (y ∷ earlier) is.0 is.1 is.2)

  sound : is_free g s ≡ true → IsSound p
  sound free = record {
    free = free;
    consistent = octile_is_consistent g t;
    stops_in_time = first_is_in_time g t;
  }

  -- and finds a least walk
  pub cells_least : (points : List Cell) (cost : Cost) (taken : List ℕ) → is_free g s ≡ true
      → IsFound ByCell g s t points cost taken → StandsForLeast g s t points cost
  cells_least points cost taken free f =
      let all = f.last ∷ f.earlier in
      let l = goal_least p (sound free) (map reached all) (reached f.last) (are_taken all f.run)
      (search.here (map reached f.earlier)) f.at_goal in
      found_least_so ByCell g s t points cost taken free f
      (λ others o. Most-then (Most-same (sym l.priced)) (record { is = l.least.least others o }))

  -- with the same numbers
  same_number : (u : Taken State) → state_number g.width (arrived_in ByCell u.parent u.state)
      ≡ state_number g.width (state_at (reached u).state)
  same_number u = ap (λ (a : Option Dir). state_number g.width (record { cell = u.state.cell; arrival = a }))
      (sym (back (shown ByCell u).arrival))
    where
      back : (a : Option Dir) → come_in (come_to a) ≡ a
      back None = refl
      back (Some d) = refl

  same_numbers : (run : List (Taken State))
      → map (λ u. state_number g.width (arrived_in ByCell u.parent u.state)) run
      ≡ map (λ u. state_number g.width (state_at u.state)) (map reached run)
  same_numbers [] = refl
  same_numbers (x ∷ run) = rw (same_number x, same_numbers run) refl

  -- and where it ends, such a search ends
  pub by_such : (f : Found) → IsJumpRun ByCell g s t f → IsBySuch g s t f
  by_such f is = by_walk f.walk is
    where
      by_walk : (o : Option Walk) → IsJumpRun ByCell g s t (record { walk = o; taken = f.taken })
          → IsBySuch g s t (record { walk = o; taken = f.taken })
      by_walk None x = record {
        taken = map reached x.run;
        are = are_taken x.run x.is_run;
        numbered = x.numbered ∙ ap reverse (same_numbers x.run);
        ended = record {
          not_there = not_there x.run x.no_goal;
          nothing = λ z o.
              let w = offer_waits x.run x.is_run x.no_goal z o in
              let e : Some w.offer ≡ None =
              sym w.waits.offered ∙ x.none_waits (start_at z.state.cell) w.waits.untaken in absurd (cc);
        };
      }
      by_walk (Some w) x = record {
        taken = map reached (x.last ∷ x.earlier);
        are = are_taken (x.last ∷ x.earlier) x.run;
        numbered = x.numbered ∙ ap reverse (same_numbers (x.last ∷ x.earlier));
        ended = record {
          by = reached x.last;
          member = search.here (map reached x.earlier);
          is = x.at_goal;
          priced = sym x.priced;
        };
      }

  -- or ends where no walk leads there
  pub cells_none : (taken : List ℕ) → is_free g s ≡ true → IsExhausted ByCell g s t taken → NoWalk g s t
  cells_none taken free x =
      let y = by_such (record { walk = None; taken = taken }) x in
      none_left p (sound free) y.taken y.are y.ended.not_there y.ended.nothing
