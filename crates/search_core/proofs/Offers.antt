-- The offers over the jumps of the last taken state are those of its links.
use Rattle.std.proofs.lemmas.Bool.Decides.{nat_tests}
use Rattle.std.proofs.lemmas.Grind.{common_steps}
use Rattle.std.proofs.Common.{◌≡◌, ℕ, ◌+◌, ◌^◌, ◌<◌, ◌≤◌, inl, refl, ap, sym, ◌∙◌, subst, Bool, true, false}
use Rattle.std.proofs.Common.{List, [], ◌∷◌, arith}
use Rattle.std.specs.Prelude.{Option, Some, None, filter}
use Rattle.std.specs.List.{AllByRecursion}
use Rattle.std.specs.Option.{option_map_or}
use Rattle.std.proofs.lemmas.Option.{same_Some}
use Rattle.root2_cost.specs.declared.Cost.{Cost}
use Rattle.root2_cost.specs.Rank.{rank_of}
use Rattle.root2_cost.proofs.Differences.{rank-add_costs}
use Rattle.grid_moves.specs.declared.Cell.{Cell}
use Rattle.grid_moves.specs.declared.Dir.{Dir}
use Rattle.grid_moves.specs.Grid.{GridData, IsGrid, is_free}
use Rattle.grid_moves.specs.Move.{all_dirs, is_same}
use Rattle.grid_moves.proofs.Dirs.{In, first as here_is, later as there_is, in_all}
use Rattle.grid_moves.proofs.Legal.{free_inside, same_cell}
use Rattle.grid_moves.proofs.Places.{number_below}
use Rattle.pruning.specs.declared.Arrival.{Arrival}
use Rattle.pruning.specs.Allowed.{is_allowed, allowed_dirs, come_to}
use Rattle.pruning.specs.Chain.{run_cost}
use Rattle.pruning.specs.First.{first_stop}
use Rattle.pruning.specs.Marked.{run_end}
use Rattle.pruning.proofs.Running.{AreMoved, moved_to, run_walked}
use Rattle.pruning.proofs.Runs.{run_short}
use Rattle.search_run.specs.Run.{Taken, here, least_offer}
use Rattle.best_first.specs.declared.state.State.{State}
use Rattle.best_first.specs.declared.state.Layout.{Layout}
use Rattle.best_first.specs.Mirror.{Offers}
use Rattle.best_first.specs.Progress.{HasOffered, numbers_of}
use Rattle.best_first.specs.Rule.{IsSearch}
use Rattle.best_first.specs.Space.{SpaceData, IsPlaced}
use Rattle.best_first.specs.Table.{Table, node_for, offered, ClosedBelow}
use Rattle.best_first.specs.Ways.{Onward, IsAmong, first, later, with_onward, with_all}
use Rattle.best_first.proofs.Searching.{IsOver, closed_below, key_rises, one_more}
use Rattle.best_first.specs.State.{state_in, arrived_in, is_same_state}
use Rattle.best_first.proofs.States.{same_state, is_same_state-itself}
use Rattle.best_first.proofs.Ways.{of_among, AreOfLinks, AreEnough, offers_after}
use Rattle.search_core.specs.Jumps.{jump_link, jump_links, jump_rule}
use Rattle.search_core.specs.Jumping.{offer_after, jumped_in, jumped, IsAt, IsOffering}
use Rattle.search_core.specs.declared.jumping.Last.{Last}
use Rattle.search_core.proofs.Links.{IsLink, first_is, step_is, link_step, jump_is_link, jumps_are_links}
use Rattle.search_core.proofs.Links.{allowed_free, kept_of, kept_seen, kept_arrived, run_arrived_so}
use Rattle.search_core.proofs.Passing.{run_moves}
use Rattle.search_core.proofs.Passing as passing

module _ (p : Dir → Bool) where
  -- those that pass a test pass it
  all_filter : (dirs : List Dir) → AllByRecursion (λ d. p d ≡ true) (filter p dirs)
  all_filter [] = tt
  all_filter (d ∷ dirs) = grind (arith, nat_tests, common_steps, all_filter dirs)

  in_filter : (d : Dir) (dirs : List Dir) → p d ≡ true → In d dirs → In d (filter p dirs)
  in_filter d [] e i = elim i [ ]
  in_filter d (c ∷ dirs) e (here_is _) = rw e (here_is (filter p dirs))
  in_filter d (c ∷ dirs) e (there_is _ _ i) = by_test (p c) refl (in_filter d dirs e i)
    where
      by_test : (b : Bool) → p c ≡ b → In d (filter p dirs) → In d (filter p (c ∷ dirs))
      by_test true f j = rw f (there_is c (filter p dirs) j)
      by_test false f j = rw f j

-- these are the allowed directions: each is allowed, and each allowed one is one of them
pub record AreAllAllowed (g : GridData) (x : Cell) (by : Arrival) (dirs : List Dir) : Type 0 where
  pub each : AllByRecursion (λ d. is_allowed g x by d ≡ true) dirs
  pub all : (d : Dir) → is_allowed g x by d ≡ true → In d dirs

pub all_allowed : (g : GridData) (x : Cell) (by : Arrival) (dirs : List Dir) → dirs ≡ allowed_dirs g x by
    → AreAllAllowed g x by dirs
all_allowed g x by dirs e = subst (λ (ds : List Dir). AreAllAllowed g x by ds) (sym e) (record {
  each = all_filter (is_allowed g x by) all_dirs;
  all = λ d a. in_filter (is_allowed g x by) d all_dirs a (in_all d);
})

module _ (layout : Layout) (g : GridData) (s t : Cell) where
  -- a search over jumps between free cells is one of the machine
  pub fit : IsGrid g → is_free g s ≡ true → is_free g t ≡ true
      → IsSearch g.width g.height s t (jump_links layout g t)
  fit whole from to = record {
    posed = record {
      narrow = whole.sides.narrow;
      low = whole.sides.low;
      start_on = free_inside g s from;
      goal_on = free_inside g t to;
      links = jumps_are_links layout g t;
    };
    few = λ run u is m. let few = passing.costs_fit layout g t whole s run u is m in omega arith;
  }

  module _ (last : Last) where
    abbrev pub AreAllowed : List Dir → Type 0
    AreAllowed dirs = AllByRecursion
        (λ d. is_allowed g last.state.cell (come_to last.state.arrival) d ≡ true) dirs

    -- where a jump leads to
    record HasEnd (d : Dir) (n : ℕ) : Type 0 where
      pub cell : Cell
      pub some : 1 ≤ n
      pub moved : AreMoved d n last.state.cell cell
      pub reached : run_end g d n last.state.cell ≡ Some cell
      pub on : (cell.x < g.width) × (cell.y < g.height)
      pub from : (last.state.cell.x < g.width) × (last.state.cell.y < g.height)
      pub after : (offer_after last d n).to ≡ record { cell = cell; arrival = Some d }
      pub short : n ≤ g.width + g.height

    jump_end : (d : Dir) (n : ℕ) → is_allowed g last.state.cell (come_to last.state.arrival) d ≡ true
        → first_stop g t last.state.cell d ≡ Some n → HasEnd d n
    jump_end d n a e =
        let first = first_is g t last.state.cell d n e in
        let stop = first.holds in
        let some = first.in_range in
        let free = allowed_free g last.state d a in
        let run = run_walked g d n last.state.cell stop.cell free stop.reached in
        let moved = run.moved in
        let after = moved_to d n last.state.cell stop.cell run.moved in
        grind (arith, nat_tests, common_steps, free_inside, same_state, same_cell, run_short)

    -- the state that was taken last, as it was come to
    module _ (latest : Taken State) (seen : arrived_in layout latest.parent latest.state ≡ last.state) where
      at_cell : latest.state.cell ≡ last.state.cell
      at_cell = ap (λ (u : State). u.cell) seen

      -- where a jump leads, its end is come to in its direction
      end_arrived : (d : Dir) (n : ℕ) (end : HasEnd d n)
          → arrived_in layout latest.state (offer_after last d n).to ≡ (offer_after last d n).to
      end_arrived d n end = subst (λ (u : State). arrived_in layout latest.state u ≡ u) (sym end.after)
          (run_arrived_so layout latest.state d n end.cell end.some
          (subst (λ (c : Cell). AreMoved d n c end.cell) (sym at_cell) end.moved))

      -- a jump is a link
      jump_linked : (d : Dir) (n : ℕ) → is_allowed g last.state.cell (come_to last.state.arrival) d ≡ true
          → first_stop g t last.state.cell d ≡ Some n
          → (jump_links layout g t).step latest.parent latest.state
          (state_in layout (offer_after last d n).to)
          ≡ Some (run_cost d n)
      jump_linked d n a e =
          let end = jump_end d n a e in
          let arrives : arrived_in layout latest.state (state_in layout (offer_after last d n).to)
          ≡ record { cell = end.cell; arrival = Some d } =
          kept_arrived layout latest.state (offer_after last d n).to ∙ end_arrived d n end ∙ end.after in
          link_step layout g t latest.parent latest.state (state_in layout (offer_after last d n).to)
          (run_cost d n) (kept_seen layout (offer_after last d n).to)
          (ap (λ (v : State). jump_link g t (arrived_in layout latest.parent latest.state) v) arrives
          ∙ ap (λ (u : State). jump_link g t u (record { cell = end.cell; arrival = Some d })) seen
          ∙ jump_is_link g t last.state (record { cell = end.cell; arrival = Some d }) d n
          refl a e end.reached)

      -- and may stand so in a node's place
      jump_led : (d : Dir) (n : ℕ) → is_allowed g last.state.cell (come_to last.state.arrival) d ≡ true
          → first_stop g t last.state.cell d ≡ Some n
          → (jump_links layout g t).led latest.state (offer_after last d n).to ≡ true
      jump_led d n a e = subst (λ (u : State). is_same_state (offer_after last d n).to u ≡ true)
          (sym (end_arrived d n (jump_end d n a e))) (is_same_state-itself (offer_after last d n).to)

    -- the ways on over these directions
    abbrev pub way_after : Dir → ℕ → Onward
    way_after d n = record { to = state_in layout (offer_after last d n).to; cost = run_cost d n }

    abbrev pub with_jump : Dir → Option ℕ → List Onward → List Onward
    with_jump d None ways = ways
    with_jump d (Some n) ways = way_after d n ∷ ways

    abbrev pub ways_in : List Dir → List Onward
    ways_in [] = []
    ways_in (d ∷ dirs) = with_jump d (first_stop g t last.state.cell d) (ways_in dirs)

    each_among : (dirs : List Dir) (d : Dir) (n : ℕ) → first_stop g t last.state.cell d ≡ Some n
        → In d dirs → IsAmong (way_after d n) (ways_in dirs)
    each_among [] d n e i = elim i [ ]
    each_among (c ∷ dirs) d n e (here_is _) = rw e (first (ways_in dirs))
    each_among (c ∷ dirs) d n e (there_is _ _ i) =
        by_stop (first_stop g t last.state.cell c) (each_among dirs d n e i)
      where
        by_stop : (o : Option ℕ) → IsAmong (way_after d n) (ways_in dirs)
            → IsAmong (way_after d n) (with_jump c o (ways_in dirs))
        by_stop None i = i
        by_stop (Some m) i = later (way_after c m) (ways_in dirs) i

    module _ (latest : Taken State) (seen : arrived_in layout latest.parent latest.state ≡ last.state) where
      abbrev Leads : Onward → Type 0
      Leads w = (jump_links layout g t).step latest.parent latest.state w.to ≡ Some w.cost

      each_linked : (dirs : List Dir) → AreAllowed dirs → (w : Onward) → IsAmong w (ways_in dirs) → Leads w
      each_linked [] a w i = elim i [ ]
      each_linked (d ∷ dirs) a w i =
          by_stop (first_stop g t last.state.cell d) refl (λ v j. each_linked dirs a.1 v j) i
        where
          by_stop : (o : Option ℕ) → first_stop g t last.state.cell d ≡ o
              → ((v : Onward) → IsAmong v (ways_in dirs) → Leads v)
              → IsAmong w (with_jump d o (ways_in dirs)) → Leads w
          by_stop None e next i = next w i
          by_stop (Some n) e next i =
              of_among Leads (jump_linked latest seen d n a.0 e) (next w) i

      -- each link is among the ways in the allowed directions
      linked_among : (dirs : List Dir) → AreAllAllowed g last.state.cell (come_to last.state.arrival) dirs
          → (v : State) (c : Cost) → (jump_links layout g t).step latest.parent latest.state v ≡ Some c
          → IsAmong (record { to = v; cost = c }) (ways_in dirs)
      linked_among dirs all v c e =
          let step = step_is layout g t latest.parent latest.state v c e in
          let l = subst (λ (u : State). IsLink g t u (arrived_in layout latest.state v) c) seen step.jump in
          let end = jump_end l.dir l.moves l.allowed l.computed in
          let cell : end.cell ≡ v.cell = same_Some _ _ (sym end.reached ∙ l.reached) in
          let to : state_in layout (offer_after last l.dir l.moves).to ≡ v =
          ap (λ (u : State). state_in layout u) end.after
          ∙ ap (λ (x : Cell). state_in layout (record { cell = x; arrival = Some l.dir })) cell
          ∙ kept_of layout latest.state v l.dir step.seen l.arrives in
          subst (λ (w : Onward). IsAmong w (ways_in dirs))
          (same_way (way_after l.dir l.moves) (record { to = v; cost = c }) to (sym l.priced))
          (each_among dirs l.dir l.moves l.computed (all.all l.dir l.allowed))
        where
          same_way : (a b : Onward) → a.to ≡ b.to → a.cost ≡ b.cost → a ≡ b
          same_way a b e f = grind (arith, nat_tests, common_steps)

    module _ (whole : IsGrid g) (from : is_free g s ≡ true) (to : is_free g t ≡ true) (latest : Taken State)
        (earlier : List (Taken State)) where
      -- the parts that an offer over a jump needs
      module _ (best : Offers) (k : Table)
          (i : IsAt layout g s t last latest earlier best k) (d : Dir) (n : ℕ)
          (a : is_allowed g last.state.cell (come_to last.state.arrival) d ≡ true)
          (e : first_stop g t last.state.cell d ≡ Some n) where
        over : IsOver layout (jump_links layout g t) latest last.at (offer_after last d n) (run_cost d n)
        over = record {
          linked = jump_linked latest i.state d n a e;
          ranked = ap (λ (r : ℕ). r + rank_of (run_cost d n)) i.ranked
              ∙ sym (rank-add_costs latest.cost (run_cost d n));
          parent = refl;
          led = jump_led latest i.state d n a e;
        }

        one_offer : IsAt layout g s t last latest earlier (with_onward latest best (way_after d n))
            (offered layout t (offer_after last d n) k)
        one_offer = record {
          searching = one_more (fit whole from to) i.searching (offer_after last d n) (run_cost d n) over;
          state = i.state;
          ranked = i.ranked;
        }

        -- no closed node has a greater key
        closed : ClosedBelow (node_for t (offer_after last d n)).key k
        closed =
            let below = closed_below (fit whole from to) i.searching in
            let rises = key_rises (fit whole from to) i.searching (offer_after last d n)
            (run_cost d n) over in
            record { flags = below.flags; below = λ id m h o. no_less (below.below id m h o) rises }
          where
            no_less : {p q r : ℕ} → p ≤ q → q ≤ r → p ≤ r
            no_less {p} {q} {r} h k = omega arith

      -- the offer in one direction
      one_dir : (best : Offers) (k : Table) → IsAt layout g s t last latest earlier best k
          → (d : Dir) (ways : List Onward)
          → is_allowed g last.state.cell (come_to last.state.arrival) d ≡ true
          → (Q : Offers → Table → Type 0)
          → ((b : Offers) (j : Table) → IsAt layout g s t last latest earlier b j
          → Q (with_all latest b ways) j)
          → Q (with_all latest best (with_jump d (first_stop g t last.state.cell d) ways))
          (jumped_in layout g t last d k)
      one_dir best k i d ways a Q next = by_stop (first_stop g t last.state.cell d) refl
        where
          by_stop : (o : Option ℕ) → first_stop g t last.state.cell d ≡ o
              → Q (with_all latest best (with_jump d o ways))
              (option_map_or (λ n. offered layout t (offer_after last d n) k) o k)
          by_stop None e = next best k i
          by_stop (Some n) e = next (with_onward latest best (way_after d n))
              (offered layout t (offer_after last d n) k) (one_offer best k i d n a e)

      -- and in all of these
      pub all_dirs_offered : (dirs : List Dir) → AreAllowed dirs → (best : Offers) (k : Table)
          → IsAt layout g s t last latest earlier best k
          → IsAt layout g s t last latest earlier (with_all latest best (ways_in dirs))
          (jumped layout g t last dirs k)
      all_dirs_offered [] a best k i = i
      all_dirs_offered (d ∷ dirs) a best k i =
          one_dir best k i d (ways_in dirs) a.0
          (λ b j. IsAt layout g s t last latest earlier b (jumped layout g t last dirs j))
          (λ b j i. all_dirs_offered dirs a.1 b j i)

      -- after all allowed directions the state has made its offers
      module _ (dirs : List Dir) (all : AreAllAllowed g last.state.cell (come_to last.state.arrival) dirs)
        where
          pub all_offered : (k : Table) (taken : List ℕ)
              → IsAt layout g s t last latest earlier
              (with_all latest (least_offer (jump_rule layout g t) earlier) (ways_in dirs))
              k → is_same last.state.cell t ≡ false → taken
              ≡ numbers_of g.width (jump_links layout g t) (latest ∷ earlier)
              → HasOffered layout g.width t (jump_links layout g t) s last.at k taken
          all_offered k taken i open_ended numbered =
              let not_goal : is_same latest.state.cell t ≡ false =
              ap (λ (c : Cell). is_same c t) (ap (λ (u : State). u.cell) i.state) ∙ open_ended in
              record {
                last = latest;
                earlier = earlier;
                best = with_all latest (least_offer (jump_rule layout g t) earlier) (ways_in dirs);
                searching = i.searching;
                open_ended = not_goal;
                all_made = λ v n. offers_after g.width t (jump_links layout g t) latest earlier
                    (ways_in dirs) not_goal
                    (of_links i.state) (enough i.state) v n;
                numbered = numbered;
              }
            where
              of_links : arrived_in layout latest.parent latest.state ≡ last.state
                  → AreOfLinks g.width t (jump_links layout g t) latest (ways_in dirs)
              of_links e w j = each_linked latest e dirs all.each w j

              enough : arrived_in layout latest.parent latest.state ≡ last.state
                  → AreEnough g.width t (jump_links layout g t) latest earlier (ways_in dirs)
              enough e v c n l = inl (linked_among latest e dirs all v c l)

  rank_small : (p q : Cost) → p.a + p.b ≤ 2 ^ 27 → q.a + q.b ≤ 8192 → rank_of p + rank_of q < 2 ^ 63
  rank_small p q h k = omega arith

  -- what the offer over a jump needs of the space
  pub record IsReady (last : Last) (d : Dir) (n : ℕ) (space : SpaceData) : Type 0 where
    pub column : last.state.cell.x + n < 65536
    pub row : last.state.cell.y + n < 65536
    pub rank : last.rank + rank_of (run_cost d n) < 2 ^ 63
    pub narrow : space.width ≤ 4096
    pub placed : IsPlaced space.width space.places (offer_after last d n).to.cell
    pub closed : ClosedBelow (node_for t (offer_after last d n)).key space.table

  pub is_ready : is_free g s ≡ true → is_free g t ≡ true → (last : Last) (space : SpaceData)
      → IsOffering layout g s t last space → (d : Dir)
      → is_allowed g last.state.cell (come_to last.state.arrival) d ≡ true → (n : ℕ)
      → first_stop g t last.state.cell d ≡ Some n → IsReady last d n space
  is_ready from to last space o d a n e =
      let whole = o.of.whole in
      let end = jump_end last d n a e in
      let narrow = whole.sides.narrow in
      let low = whole.sides.low in
      let inside = end.from in
      let short = end.short in
      let few = passing.costs_fit layout g t whole s (o.latest ∷ o.earlier) o.latest o.is_at.searching.run
      (here o.earlier) in
      let moves : (run_cost d n).a + (run_cost d n).b ≤ 8192 = rw (run_moves d n) (omega arith) in
      let width = o.of.width in
      let placed : IsPlaced g.width space.places (record { x = end.cell.x; y = end.cell.y }) =
      let below = number_below g.width g.height end.cell end.on.0 end.on.1 in
      let places = o.of.places.enough in
      let on = end.on in
      record { column = on.0; row = omega arith; within = omega arith } in
      record {
        column = omega arith;
        row = omega arith;
        rank = rw o.is_at.ranked (rank_small o.latest.cost (run_cost d n) few moves);
        narrow = omega arith;
        placed = subst (λ (u : State). IsPlaced space.width space.places u.cell) (sym end.after)
            (subst (λ (w : ℕ). IsPlaced w space.places end.cell) (sym width) placed);
        closed = closed last whole from to o.latest o.earlier o.best space.table o.is_at d n a e;
      }
