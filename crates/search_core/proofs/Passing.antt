-- Along the jumps of a run each cell is passed in each direction once, so there are few moves: where it is
-- passed twice in one direction, both jumps go on to one stop, and each state is taken once.
use Rattle.std.proofs.lemmas.Grind.{common_steps}
use Rattle.std.proofs.Common.{◌≡◌, ℕ, zero, suc, ◌+◌, ◌*◌, ◌^◌, ◌<◌, ◌≤◌, length, List, [], ◌∷◌, ◌++◌, refl}
use Rattle.std.proofs.Common.{ap, sym, ◌∙◌, subst, true, false, arith, eqb, mul-le-mul}
use Rattle.std.specs.Prelude.{Option, Some, None, option_and_then, nat_eq}
use Rattle.std.specs.List.{IsDistinct, AllByRecursion, list_any}
use Rattle.std.proofs.lemmas.Map.Keys.{IsDistinct-cons}
use Rattle.std.proofs.lemmas.Map.Steps.{length-le_from_distinct_below}
use Rattle.std.proofs.lemmas.List.{length-append}
use Rattle.std.proofs.lemmas.Option.{same_Some}
use Rattle.std.proofs.lemmas.Bool.Decides.{nat_tests}
use Rattle.root2_cost.specs.declared.Cost.{Cost}
use Rattle.root2_cost.specs.Sums.{add_costs}
use Rattle.grid_moves.specs.declared.Cell.{Cell}
use Rattle.grid_moves.specs.declared.Dir.{Dir}
use Rattle.grid_moves.specs.declared.Dir.TheVariants.{N, NE, E, SE, S, SW, W, NW}
use Rattle.grid_moves.specs.Grid.{GridData, IsGrid, cell_number}
use Rattle.grid_moves.specs.Least.{NoneBelow, IsLeast}
use Rattle.grid_moves.specs.Move.{legal_ahead, dir_number}
use Rattle.grid_moves.proofs.Legal.{free_inside, legal_is}
use Rattle.grid_moves.proofs.Places.{one_cell, number_below}
use Rattle.grid_moves.proofs.Dirs.{dir_number-few}
use Rattle.pruning.specs.Chain.{run_cost}
use Rattle.pruning.specs.Marked.{run_end}
use Rattle.pruning.specs.Stop.{StopsAfter}
use Rattle.pruning.proofs.Bridging.{legal_leads, one_of}
use Rattle.pruning.proofs.Firsts.{FindsLeast-once}
use Rattle.pruning.proofs.Table.{same_dir}
use Rattle.search_run.specs.Run.{Taken, IsIn, here, there, IsRun, is_taken}
use Rattle.search_run.proofs.Leastness.{least_offer-from, is_taken-member}
use Rattle.best_first.specs.declared.state.Layout.{Layout}
use Rattle.best_first.specs.declared.state.State.{State}
use Rattle.best_first.specs.State.{start_at, state_in, arrived_in, is_seen}
use Rattle.best_first.proofs.Links.{consistent}
use Rattle.best_first.proofs.Numbers.{differ}
use Rattle.search_core.specs.Jumps.{jump_links, jump_rule}
use Rattle.search_core.proofs.Arrivals.{shown}
use Rattle.search_core.proofs.Links.{step_is, kept_of, jumps_are_links}

module _ {P Q : ℕ → Type 0} where
  all_map : (xs : List ℕ) → ((x : ℕ) → P x → Q x) → AllByRecursion P xs → AllByRecursion Q xs
  all_map [] f a = tt
  all_map (x ∷ xs) f a = (f x a.0, all_map xs f a.1)

module _ (P : ℕ → Type 0) where
  all_append : (xs ys : List ℕ) → AllByRecursion P xs → AllByRecursion P ys → AllByRecursion P (xs ++ ys)
  all_append [] ys a b = b
  all_append (x ∷ xs) ys a b = (a.0, all_append xs ys a.1 b)

  -- what holds of each holds of one of them
  all_at : (xs : List ℕ) (q : ℕ) → AllByRecursion P xs → list_any (eqb q) xs ≡ true → P q
  all_at [] q a h = absurd (cc)
  all_at (x ∷ xs) q a h = grind (arith, nat_tests, common_steps, all_at xs q a.1)

-- two lists of different numbers that share none
distinct_append : (xs ys : List ℕ) → IsDistinct eqb xs → IsDistinct eqb ys
    → AllByRecursion (λ x. AllByRecursion (λ y. eqb x y ≡ false) ys) xs → IsDistinct eqb (xs ++ ys)
unfolding IsDistinct
distinct_append [] ys a b c = b
distinct_append (x ∷ xs) ys a b c =
    (all_append (λ y. eqb x y ≡ false) xs ys a.0 c.0, distinct_append xs ys a.1 b c.1)

distinct_none : IsDistinct eqb []
unfolding IsDistinct
distinct_none = tt

pub run_moves : (d : Dir) (k : ℕ) → (run_cost d k).a + (run_cost d k).b ≡ k
run_moves N k = omega arith
run_moves NE k = omega arith
run_moves E k = omega arith
run_moves SE k = omega arith
run_moves S k = omega arith
run_moves SW k = omega arith
run_moves W k = omega arith
run_moves NW k = omega arith

module _ (g : GridData) (goal : Cell) where
  -- cells and directions are numbered
  number : Dir → Cell → ℕ
  number d c = cell_number g.width c * 8 + dir_number d

  -- the number is that of a cell and this direction in which n moves lead to the next stop, which is e
  record IsAhead (d : Dir) (e : Cell) (q n : ℕ) : Type 0 where
    cell : Cell
    on : (cell.x < g.width) × (cell.y < g.height)
    number_is : number d cell ≡ q
    first : IsLeast (StopsAfter g goal cell d) 0 n
    ends : run_end g d n cell ≡ Some e

  -- a number tells direction and stop
  one_stop : (d f : Dir) (e s : Cell) (q p m n : ℕ) → q ≡ p → IsAhead d e q m → IsAhead f s p n
      → (d ≡ f) × (e ≡ s) × (m ≡ n)
  unfolding number
  one_stop d f e s q p m n same a b =
      let parts = parted (cell_number g.width a.cell) (cell_number g.width b.cell) (dir_number d)
      (dir_number f)
      (dir_number-few d) (dir_number-few f) (a.number_is ∙ same ∙ sym b.number_is) in
      let dir : d ≡ f = same_dir d f (equal (dir_number d) (dir_number f) parts.1) in
      let cell : a.cell ≡ b.cell = one_cell g.width a.cell b.cell a.on.0 b.on.0 parts.0 in
      by_one dir cell
    where
      parted : (m n i j : ℕ) → i < 8 → j < 8 → m * 8 + i ≡ n * 8 + j → (m ≡ n) × (i ≡ j)
      parted m n i j h k e = (omega arith, omega arith)

      equal : (i j : ℕ) → i ≡ j → nat_eq i j ≡ true
      equal i j e = grind (arith, nat_tests)

      by_one : d ≡ f → a.cell ≡ b.cell → (d ≡ f) × (e ≡ s) × (m ≡ n)
      by_one dir cell =
          let first : IsLeast (StopsAfter g goal a.cell d) 0 n =
          subst (λ (c : Cell). IsLeast (StopsAfter g goal c d) 0 n) (sym cell)
          (subst (λ (h : Dir). IsLeast (StopsAfter g goal b.cell h) 0 n) (sym dir) b.first) in
          let many : m ≡ n = same_Some m n
          (FindsLeast-once (StopsAfter g goal a.cell d) 0 (Some m) (Some n) a.first first) in
          let there : run_end g d m a.cell ≡ Some s =
          ap (λ (k : ℕ). run_end g d k a.cell) many ∙ ap (λ (c : Cell). run_end g d n c) cell
          ∙ ap (λ (h : Dir). run_end g h n b.cell) dir ∙ b.ends in
          (dir, one_of e s (sym a.ends ∙ there), many)

  -- with fewer than k moves left
  record IsAheadBelow (d : Dir) (e : Cell) (k q : ℕ) : Type 0 where
    left : ℕ
    fewer : left < k
    at : IsAhead d e q left

  -- different numbers for the k moves of a jump to e
  record HasNumbers (d : Dir) (e : Cell) (k : ℕ) : Type 0 where
    numbers : List ℕ
    each : AllByRecursion (IsAheadBelow d e k) numbers
    distinct : IsDistinct eqb numbers
    many : length numbers ≡ k

  -- one move more, before them
  with_one : (d : Dir) (e v : Cell) (k : ℕ) → IsAhead d e (number d v) k → HasNumbers d e k
      → HasNumbers d e (suc k)
  with_one d e v k a h = record {
    numbers = number d v ∷ h.numbers;
    each = (
      record { left = k; fewer = omega arith; at = a },
      all_map h.numbers
          (λ q b. record { left = b.left; fewer = (let f = b.fewer in omega arith); at = b.at }) h.each,
    );
    distinct = IsDistinct-cons eqb (number d v) h.numbers
        (all_map h.numbers (λ q b. differ (number d v) q (λ same.
        let one = one_stop d d e e (number d v) q k b.left same a b.at in
        let m = one.2 in let f = b.fewer in omega arith)) h.each) h.distinct;
    many = (let m = h.many in omega arith);
  }

  jump_numbers : (d : Dir) (e : Cell) (k : ℕ) (x : Cell) → NoneBelow (StopsAfter g goal x d) 1 k
      → StopsAfter g goal x d k → run_end g d k x ≡ Some e → HasNumbers d e k
  jump_numbers d e zero x none stop r
      = record { numbers = []; each = tt; distinct = distinct_none; many = refl }
  jump_numbers d e (suc k) x none stop r =
      by_cell (legal_ahead g x d) refl r (λ v. jump_numbers d e k v)
    where
      by_cell : (o : Option Cell) → legal_ahead g x d ≡ o
          → option_and_then (λ v. run_end g d k v) o ≡ Some e
          → ((v : Cell) → NoneBelow (StopsAfter g goal v d) 1 k → StopsAfter g goal v d k
          → run_end g d k v ≡ Some e → HasNumbers d e k)
          → HasNumbers d e (suc k)
      by_cell None l r next = absurd (cc)
      by_cell (Some v) l r next =
          let inside = free_inside g v (legal_is g x v (legal_leads g x v d l).legal).target in
          let last : StopsAfter g goal v d k =
          record { cell = stop.cell; reached = rw l at stop.reached; stops = stop.stops } in
          let before : NoneBelow (StopsAfter g goal v d) 0 k = λ j i f s.
          none (suc j) (omega arith) (omega arith)
          (record { cell = s.cell; reached = rw l s.reached; stops = s.stops }) in
          with_one d e v k (record {
            cell = v;
            on = inside;
            number_is = refl;
            first = record { in_range = omega arith; holds = last; least = before };
            ends = r;
          }) (next v (λ j i f s. before j (omega arith) f s) last r)

module _ (layout : Layout) (g : GridData) (goal : Cell) where
  -- the number is passed on the jump to one of the taken states
  record IsPassed (run : List (Taken State)) (q : ℕ) : Type 0 where
    by : Taken State
    member : IsIn by run
    dir : Dir
    seen : is_seen layout by.state ≡ true
    arrives : (shown layout by).arrival ≡ Some dir
    left : ℕ
    at : IsAhead g goal dir by.state.cell q left

  -- different numbers, as many as there are moves of any taken state's cost
  record HasPassed (run : List (Taken State)) : Type 0 where
    numbers : List ℕ
    each : AllByRecursion (IsPassed run) numbers
    distinct : IsDistinct eqb numbers
    enough : (u : Taken State) → IsIn u run → u.cost.a + u.cost.b ≤ length numbers

  -- a number that is passed on the jump to a new state is passed on none before
  new_number : (earlier : List (Taken State)) (p0 x : State) (d : Dir) (q p n : ℕ) → is_seen layout x ≡ true
      → (arrived_in layout p0 x).arrival ≡ Some d
      → is_taken (jump_rule layout g goal) earlier x ≡ false → IsAhead g goal d x.cell q n
      → IsPassed earlier p → eqb q p ≡ false
  new_number earlier p0 x d q p n seen arrives untaken a old = differ q p (λ same.
      let one = one_stop g goal d old.dir x.cell old.by.state.cell q p n old.left same a old.at in
      let kept : (e : Dir) → old.dir ≡ e
      → state_in layout (record { cell = old.by.state.cell; arrival = Some e })
      ≡ old.by.state = λ e h. subst (λ (f : Dir).
      state_in layout (record { cell = old.by.state.cell; arrival = Some f }) ≡ old.by.state) h
      (kept_of layout old.by.parent old.by.state old.dir old.seen old.arrives) in
      let state : old.by.state ≡ x = sym (kept d (sym one.0))
      ∙ ap (λ (c : Cell). state_in layout (record { cell = c; arrival = Some d })) (sym one.1)
      ∙ kept_of layout p0 x d seen arrives in
      let yes : is_taken (jump_rule layout g goal) earlier x ≡ true =
      sym (ap (λ (s : State). is_taken (jump_rule layout g goal) earlier s) state)
      ∙ is_taken-member (jump_rule layout g goal)
      (consistent g.width g.height goal (jump_links layout g goal) (jumps_are_links layout g goal)) earlier
      old.by old.member in
      absurd (cc))

  passed : (start : Cell) (run : List (Taken State)) → IsRun (jump_rule layout g goal) (start_at start) run
      → HasPassed run
  passed start [] is = absurd is
  passed start (x ∷ []) is = record {
    numbers = [];
    each = tt;
    distinct = distinct_none;
    enough = only;
  }
    where
      only : (u : Taken State) → IsIn u (x ∷ []) → u.cost.a + u.cost.b ≤ 0
      only u (here e) = rw is (omega arith)
      only u (there z e m) = elim m [ ]
  passed start (x ∷ y ∷ earlier) is =
      let from = least_offer-from (jump_rule layout g goal) (y ∷ earlier) x.state
      (record { cost = x.cost; from = x.parent }) is.2.offered in
      let step = step_is layout g goal from.by.parent from.by.state x.state from.offered.step
      from.offered.linked in
      let link = step.jump in
      let arrives : (shown layout x).arrival ≡ Some link.dir =
      ap (λ (p : State). (arrived_in layout p x.state).arrival) from.offered.source ∙ link.arrives in
      let before = passed start (y ∷ earlier) is.0 in
      let new = jump_numbers g goal link.dir x.state.cell link.moves from.by.state.cell link.first.least
      link.first.holds
      link.reached in
      let long : length (new.numbers ++ before.numbers) ≡ link.moves + length before.numbers =
      length-append new.numbers before.numbers
      ∙ ap (λ (n : ℕ). n + length before.numbers) new.many in
      record {
        numbers = new.numbers ++ before.numbers;
        each = all_append (IsPassed (x ∷ y ∷ earlier)) new.numbers before.numbers
            (all_map new.numbers (λ q b. record {
              by = x;
              member = here (y ∷ earlier);
              dir = link.dir;
              seen = step.seen;
              arrives = arrives;
              left = b.left;
              at = b.at;
            }) new.each)
            (all_map before.numbers (λ q b. record {
              by = b.by;
              member = there x (y ∷ earlier) b.member;
              dir = b.dir;
              seen = b.seen;
              arrives = b.arrives;
              left = b.left;
              at = b.at;
            }) before.each);
        distinct = distinct_append new.numbers before.numbers new.distinct before.distinct
            (all_map new.numbers (λ q a. all_map before.numbers
            (λ p b. new_number (y ∷ earlier) x.parent x.state link.dir q p a.left step.seen arrives is.2.waits
            a.at b)
            before.each) new.each);
        enough = each_state from.by from.member link.moves
            (total link.dir link.moves from.by.cost x.cost
            (from.offered.total ∙ ap (λ (c : Cost). add_costs from.by.cost c) link.priced))
            before (length (new.numbers ++ before.numbers)) long;
      }
    where
      total : (d : Dir) (k : ℕ) (b c : Cost) → c ≡ add_costs b (run_cost d k) → c.a + c.b ≡ k + (b.a + b.b)
      total d k b c e =
          let m = run_moves d k in
          let s = ap (λ (z : Cost). z.a) e in
          let t = ap (λ (z : Cost). z.b) e in
          omega arith

      each_state : (by : Taken State) → IsIn by (y ∷ earlier) → (k : ℕ)
          → x.cost.a + x.cost.b ≡ k + (by.cost.a + by.cost.b) → (before : HasPassed (y ∷ earlier)) (n : ℕ)
          → n ≡ k + length before.numbers → (u : Taken State) → IsIn u (x ∷ y ∷ earlier)
          → u.cost.a + u.cost.b ≤ n
      each_state by m k sum before n e u (here z) = let few = before.enough by m in omega arith
      each_state by m k sum before n e u (there z w i) = let few = before.enough u i in omega arith

  -- so a state is taken at a cost of at most eight moves for each cell
  pub few_moves : (start : Cell) (run : List (Taken State)) (u : Taken State)
      → IsRun (jump_rule layout g goal) (start_at start) run → IsIn u run
      → u.cost.a + u.cost.b ≤ g.height * g.width * 8
  unfolding number
  few_moves start run u is m =
      let p = passed start run is in
      let enough = p.enough u m in
      let few : length p.numbers ≤ g.height * g.width * 8 =
      length-le_from_distinct_below p.numbers (g.height * g.width * 8) p.distinct (λ q h.
      let a = all_at (IsPassed run) p.numbers q p.each h in
      subst (λ (n : ℕ). n < g.height * g.width * 8) a.at.number_is
      (below (cell_number g.width a.at.cell) (dir_number a.dir) (g.height * g.width)
      (number_below g.width g.height a.at.cell a.at.on.0 a.at.on.1) (dir_number-few a.dir))) in
      omega arith
    where
      below : (m d n : ℕ) → m < n → d < 8 → m * 8 + d < n * 8
      below m d n h k = omega arith

  -- and no cost has more than 2^27 moves
  pub costs_fit : IsGrid g → (start : Cell) (run : List (Taken State)) (u : Taken State)
      → IsRun (jump_rule layout g goal) (start_at start) run → IsIn u run → u.cost.a + u.cost.b ≤ 2 ^ 27
  costs_fit whole start run u is m =
      let few = few_moves start run u is m in
      let cells : g.height * g.width ≤ 16777216 =
      (let a = whole.sides.narrow in let b = whole.sides.low in mul-le-mul b a) in
      omega arith
