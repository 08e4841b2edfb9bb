-- The certificate between two free cells is accepted.
use Rattle.std.proofs.Common.{◌≡◌, ℕ, suc, ◌+◌, ◌*◌, ◌<◌, ◌≤◌, Bool, true, false, List, get_or, [], ◌∷◌, ◌++◌}
use Rattle.std.proofs.Common.{length, map, refl, ap, sym, ◌∙◌, subst, arith}
use Rattle.std.specs.Prelude.{Option, Some, None, pos, slice_index}
use Rattle.std.specs.List.{Contains, list_all}
use Rattle.std.specs.List.Sorted.{IsStrictlyIncreasing}
use Rattle.std.proofs.lemmas.Bool.{and_parts, cases_Bool, le-leb}
use Rattle.std.proofs.lemmas.Bool.Decides.{nat_tests, Decides-int_eq}
use Rattle.std.proofs.lemmas.Simd.{map-map}
use Rattle.std.proofs.lemmas.List.Sums.{list_all-from_AllPass}
use Rattle.std.proofs.lemmas.List.Elements.{All-contains_itself}
use Rattle.std.proofs.lemmas.List.Folds.{list_any_at, list_all-map}
use Rattle.std.proofs.lemmas.Map.Views.{Contains-from_any}
use Rattle.root2_cost.specs.declared.Cost.{Cost}
use Rattle.root2_cost.specs.declared.Signed.{Signed}
use Rattle.root2_cost.specs.Order.{is_less, IsAtMost}
use Rattle.root2_cost.specs.Signed.{cost_difference, signed_of}
use Rattle.root2_cost.specs.Sums.{add_costs, no_cost}
use Rattle.root2_cost.proofs.AtMost.{IsAtMost-antisymmetric, IsAtMost-refl}
use Rattle.root2_cost.proofs.Sums.{no_cost_at_most, add_costs-no_cost_right, add_costs-no_cost_left}
use Rattle.grid_moves.specs.declared.Cell.{Cell}
use Rattle.grid_moves.specs.Grid.{GridData, IsGrid, is_free, cell_number, is_inside}
use Rattle.grid_moves.specs.Move.{is_legal, is_same}
use Rattle.grid_moves.specs.Points.{estimate}
use Rattle.grid_moves.specs.Reply.{StandsForLeast}
use Rattle.grid_moves.specs.Walk.{is_walk, cost_of}
use Rattle.grid_moves.specs.Walk as walks
use Rattle.grid_moves.proofs.Legal.{free_inside, is_same-cell, is_same-itself, legal_is}
use Rattle.grid_moves.proofs.Short.{least_steps, few_cells}
use Rattle.grid_moves.proofs.Walks.{end_free, one_more}
use Rattle.grid_moves.proofs.Consistent.{estimate_nothing, never_exceeds}
use Rattle.path_points.specs.declared.points.Walk.{Walk}
use Rattle.path_points.specs.Corners.{corners, turns_after}
use Rattle.path_points.specs.Least.{IsLeastOrNone}
use Rattle.plain_search.specs.Answer.{IsFound, IsPlainRun, plain_found}
use Rattle.plain_search.specs.Lists.{AreClosed, AreReached, IsLeastCost, closed_of, reached_of}
use Rattle.plain_search.specs.Rule.{plain_rule}
use Rattle.plain_search.proofs.Answering.{answers_are}
use Rattle.plain_search.proofs.LeastCosts.{few_least}
use Rattle.plain_search.proofs.Listing.{closed_are, reached_are}
use Rattle.plain_search.proofs.Right.{HasLeast, way_is_least}
use Rattle.potential_check.specs.declared.certificate.Claim.{Claim}
use Rattle.potential_check.specs.declared.certificate.Claim.TheVariants.{Least, NoWalk}
use Rattle.potential_check.specs.Accepted.{AcceptsClaim, AcceptsLeast, AcceptsNone, is_value, leaves}
use Rattle.potential_check.specs.Certificate.{are_listed, are_sides, ascend_from, cells_of, is_short}
use Rattle.potential_check.specs.Certificate.{is_small, lies_inside}
use Rattle.potential_check.specs.Potential.{is_listed, potential_of}
use Rattle.potential_check.proofs.Spelled.{certificate_of_spelled}
use Rattle.potential_make.specs.Certified.{CertificatesAreAccepted, HasItsCells, stated}
use Rattle.potential_make.specs.Made.{claim_on, made_certificate, made_claim}
use Rattle.potential_make.proofs.Lengths.{HasFewPoints, text_length, turns_few}
use Rattle.potential_make.proofs.Potentials.{feasible, has_potential, signed_is, same_nothing}
use Rattle.potential_make.proofs.Spelled.{Fits, text_spells, fits_line}

-- the cells of a list that satisfy a test
all_contained : {X : Type 0} (p : X → Bool) (xs : List X) → ((x : X) → Contains xs x → p x ≡ true)
    → list_all p xs ≡ true
all_contained p xs h =
    list_all-from_AllPass p xs (λ i d inside. h (get_or xs i d) (All-contains_itself xs i d inside))

contained_any : (cells : List Cell) (c : Cell) → Contains cells c → is_listed cells c ≡ true
contained_any cells c m = list_any_at (λ d. is_same d c) cells m.0 c m.1
    (ap (λ (d : Cell). is_same d c) m.2 ∙ is_same-itself c)

any_contained : (cells : List Cell) (c : Cell) → is_listed cells c ≡ true → Contains cells c
any_contained cells c e =
    Contains-from_any {eq = λ q d. is_same d q} (λ q d same. sym (is_same-cell d q same)) c cells e

-- numbers that ascend strictly
tail_up : (n : ℕ) (ns : List ℕ) → IsStrictlyIncreasing (n ∷ ns) → IsStrictlyIncreasing ns
tail_up n ns up = λ k h.
    let e : suc k + 1 ≡ suc (k + 1) = omega arith in
    subst (λ (j : ℕ). slice_index ns k < slice_index (n ∷ ns) j) e (up (suc k) (omega arith))

ascends : (width n : ℕ) (cells : List Cell) → IsStrictlyIncreasing (map (λ c. cell_number width c) cells)
    → (0 < length cells → n ≤ slice_index (map (λ c. cell_number width c) cells) 0)
    → ascend_from width n cells ≡ true
ascends width n [] up low = refl
ascends width n (c ∷ cells) up low =
    rw (
      le-leb n (cell_number width c) (low (omega arith)),
      ascends width (cell_number width c + 1) cells
          (tail_up (cell_number width c) (map (λ d. cell_number width d) cells) up) (next cells up),
    ) refl
  where
    next : (cells : List Cell) → IsStrictlyIncreasing (map (λ c. cell_number width c) (c ∷ cells))
        → 0 < length cells → cell_number width c + 1 ≤ slice_index (map (λ c. cell_number width c) cells) 0
    next [] up h = absurd (omega arith)
    next (d ∷ cells) up h = let less = up 0 (omega arith) in omega arith

-- what a free cell fits
module _ (g : GridData) (whole : IsGrid g) where
  free_short : (c : Cell) → is_free g c ≡ true → is_short c ≡ true
  free_short c h1 = grind (arith, nat_tests, free_inside)

  free_lies : (c : Cell) → is_free g c ≡ true → lies_inside g.width g.height c ≡ true
  free_lies c f = (and_parts (is_inside g c) _ f).0

  few_small : (cost : Cost) → cost.a + cost.b ≤ g.height * g.width → is_small cost ≡ true
  few_small cost h = let most = few_cells g whole in grind (arith, nat_tests)

  -- the cells of a walk are free
  walk_short : (cells : List Cell) → is_walk g cells ≡ true → list_all is_short cells ≡ true
  walk_short [] w = refl
  walk_short (c ∷ []) w = rw (free_short c w) refl
  walk_short (c ∷ d ∷ cells) w =
      let parts = and_parts (is_legal g c d) (is_walk g (d ∷ cells)) w in
      rw (free_short c (legal_is g c d parts.0).source, walk_short (d ∷ cells) parts.1) refl

  sides_are : are_sides g.width g.height ≡ true
  sides_are = let s = whole.sides in grind (arith, nat_tests)

  listed_cells : (cells : List Cell) → list_all (lies_inside g.width g.height) cells ≡ true
      → IsStrictlyIncreasing (map (λ c. cell_number g.width c) cells)
      → are_listed g.width g.height cells ≡ true
  listed_cells cells inside up = rw (inside, ascends g.width 0 cells up (λ h. omega arith)) refl

turns_short : (u : Cell) (cells : List Cell) → list_all is_short cells ≡ true
    → list_all is_short (turns_after u cells) ≡ true
turns_short u [] all = refl
turns_short u (v ∷ []) all = all
turns_short u (v ∷ w ∷ cells) all = grind (arith, cases_Bool, and_parts, turns_short v (w ∷ cells))

value_is : (v : Signed) (c : Cost) → v ≡ signed_of c → is_value v c ≡ true
value_is v c e =
    rw (e, (Decides-int_eq (pos c.a) (pos c.a)).1 refl, (Decides-int_eq (pos c.b) (pos c.b)).1 refl) refl

module _ (g : GridData) (s t : Cell) (whole : IsGrid g) (from : is_free g s ≡ true)
    (to : is_free g t ≡ true) where
  -- a claim of least cost
  module _ (points : List Cell) (cost : Cost) (taken : List ℕ) (closed : List (Cell × Cost))
      (run : IsFound g s t points cost taken) (least : StandsForLeast g s t points cost)
      (lists : AreClosed g s t cost closed) where
    least_cost : IsLeastCost g s t cost
    least_cost = record { cells = least.cells; least = least.least; priced = least.priced }

    few : cost.a + cost.b ≤ g.height * g.width
    few = few_least g s t cost least_cost

    cell_free : (e : Cell × Cost) → Contains closed e → is_free g e.0 ≡ true
    cell_free e m = let o = (lists.only e.0 e.1 m).0 in end_free g s e.0 o.cells o.least.walk

    cell_fits : (e : Cell × Cost) → Contains closed e → fits_line e ≡ true
    cell_fits e m = rw (
      free_short g whole e.0 (cell_free e m),
      few_small g whole e.1 (few_least g s e.0 e.1 (lists.only e.0 e.1 m).0),
    ) refl

    -- the way of the run
    way : HasLeast g t (plain_rule g t) s run.last run.earlier
    way = way_is_least g s t run.last run.earlier from run.run run.at_goal

    up : IsStrictlyIncreasing (map (λ c. cell_number g.width c) (cells_of closed))
    up = subst IsStrictlyIncreasing
        (sym (map-map (λ c. cell_number g.width c) (λ (e : Cell × Cost). e.0) closed))
        lists.ascend

    points_are : points ≡ s ∷ turns_after s way.cells
    points_are = run.along ∙ ap corners way.is_way

    points_short : list_all is_short points ≡ true
    points_short =
        let all = walk_short g whole (s ∷ way.cells) way.least.walk.legal in
        let parts = and_parts (is_short s) (list_all is_short way.cells) all in
        rw (points_are, parts.0, turns_short s way.cells parts.1) refl

    pub fits_least : Fits g.width g.height (Least cost points closed)
    fits_least = record {
      cost_small = few_small g whole cost few;
      first = s;
      more = turns_after s way.cells;
      points_are = points_are;
      points_short = points_short;
      values_fit = all_contained fits_line closed cell_fits;
      listed = listed_cells g whole (cells_of closed)
          (list_all-map (lies_inside g.width g.height) (λ (e : Cell × Cost). e.0) closed
          ∙ all_contained (λ e. lies_inside g.width g.height e.0) closed
          (λ e m. free_lies g whole e.0 (cell_free e m))) up;
    }

    -- the start is nothing above itself
    start_least : IsLeastCost g s s no_cost
    start_least = record {
      cells = [];
      least = record {
        walk = record { legal = from; ends = refl };
        least = λ others o. no_cost_at_most (cost_of (s ∷ others));
      };
      priced = refl;
    }

    estimate_most : IsAtMost (estimate s t) cost
    estimate_most = rw (← least.priced) (never_exceeds g s t least.cells least.least.walk)

    start_value : is_value (potential_of cost t closed s) no_cost ≡ true
    start_value = by_sum (is_less (add_costs no_cost (estimate s t)) cost) refl
      where
        by_sum : (b : Bool) → is_less (add_costs no_cost (estimate s t)) cost ≡ b
            → is_value (potential_of cost t closed s) no_cost ≡ true
        by_sum true e = value_is (potential_of cost t closed s) no_cost
            ((has_potential g s t cost closed lists).near s no_cost start_least e)
        by_sum false e =
            let most : IsAtMost cost (estimate s t) =
            subst (λ (c : Cost). IsAtMost cost c) (add_costs-no_cost_left (estimate s t)) e in
            value_is (potential_of cost t closed s) no_cost
            ((has_potential g s t cost closed lists).far s no_cost start_least e
            ∙ same_nothing cost (estimate s t) (IsAtMost-antisymmetric cost (estimate s t) most
            estimate_most))

    goal_value : is_value (potential_of cost t closed t) cost ≡ true
    goal_value =
        let none : estimate t t ≡ no_cost = estimate_nothing t in
        let sum : add_costs cost (estimate t t) ≡ cost =
        ap (λ (e : Cost). add_costs cost e) none ∙ add_costs-no_cost_right cost in
        let above : is_less (add_costs cost (estimate t t)) cost ≡ false =
        ap (λ (c : Cost). is_less c cost) sum ∙ IsAtMost-refl cost in
        value_is (potential_of cost t closed t) cost
        ((has_potential g s t cost closed lists).far t cost least_cost above
        ∙ ap (λ (e : Cost). cost_difference cost e) none ∙ sym (signed_is cost))

    pub accepts_least : AcceptsLeast g s t cost points closed
    accepts_least = record {
      walk = record {
        cells = least.cells;
        unfolds = least.unfolds;
        walk = least.least.walk;
        short =
            let n = least_steps g s t least.cells least.least in let m = few_cells g whole in omega arith;
        priced = least.priced;
      };
      start = start_value;
      goal = goal_value;
      moves = feasible g s t cost closed lists from;
    }

  -- a claim that no walk exists
  module _ (reached : List Cell) (none : walks.NoWalk g s t) (lists : AreReached g s reached) where
    reached_free : (c : Cell) → Contains reached c → is_free g c ≡ true
    reached_free c m = let w = lists.only c m in end_free g s c w.cells w.walk

    pub fits_none : Fits g.width g.height (NoWalk reached)
    fits_none = record {
      cells_short = all_contained is_short reached (λ c m. free_short g whole c (reached_free c m));
      listed = listed_cells g whole reached (all_contained (lies_inside g.width g.height) reached
          (λ c m. free_lies g whole c (reached_free c m))) lists.ascend;
    }

    pub accepts_none : AcceptsNone g s t reached
    accepts_none = record {
      start = contained_any reached s (lists.all s [] (record { legal = from; ends = refl }));
      goal = by_test (is_listed reached t) refl;
      moves = λ u v l. by_listed u v l (is_listed reached u) refl;
    }
      where
        by_test : (b : Bool) → is_listed reached t ≡ b → is_listed reached t ≡ false
        by_test false e = e
        by_test true e = absurd (let w = lists.only t (any_contained reached t e) in none w.cells w.walk)

        by_listed : (u v : Cell) → is_legal g u v ≡ true → (b : Bool) → is_listed reached u ≡ b
            → leaves reached u v ≡ false
        by_listed u v l false e = rw e refl
        by_listed u v l true e =
            let w = lists.only u (any_contained reached u e) in
            let on = one_more g s u v w.cells (cost_of (s ∷ w.cells))
            (record { legal = w.walk.legal; ends = w.walk.ends; priced = refl }) l in
            let yes = contained_any reached v
            (lists.all v (w.cells ++ (v ∷ [])) (record { legal = on.legal; ends = on.ends })) in
            rw (e, yes) refl

  -- what is known of a claim
  record IsGood (claim : Claim) : Type 0 where
    fits : Fits g.width g.height claim
    few_points : HasFewPoints claim
    accepted : AcceptsClaim g s t claim
    cells : HasItsCells g s t claim

  few_points : (points : List Cell) (cost : Cost) (taken : List ℕ) → IsFound g s t points cost taken
      → length points ≤ 16777217
  few_points points cost taken run =
      let w = way_is_least g s t run.last run.earlier from run.run run.at_goal in
      let are : length points ≡ suc (length (turns_after s w.cells)) =
      ap length (run.along ∙ ap corners w.is_way) in
      let turns = turns_few s w.cells in
      let few = least_steps g s t w.cells w.least in
      let most = few_cells g whole in
      omega arith

  good : (walk : Option Walk) (taken : List ℕ) → IsPlainRun g s t (record { walk = walk; taken = taken })
      → IsLeastOrNone g s t walk → IsGood (claim_on g s t walk)
  good (Some w) taken run least =
      let closed : List (Cell × Cost) = closed_of g s t w.cost in
      let are = closed_are g s from t w.cost in record {
        fits = fits_least w.points w.cost taken closed run least are;
        few_points = few_points w.points w.cost taken run;
        accepted = accepts_least w.points w.cost taken closed run least are;
        cells = (are, has_potential g s t w.cost closed are);
      }
  good None taken run none =
      let are = reached_are g s from in record {
        fits = fits_none (reached_of g s) none are;
        few_points = tt;
        accepted = accepts_none (reached_of g s) none are;
        cells = are;
      }

  made_good : IsGood (made_claim g s t)
  unfolding made_claim
  made_good =
      let f = plain_found g s t in good f.walk f.taken (answers_are.run g s t) (answers_are.least g s t from)

-- so the certificate is accepted
pub certified : CertificatesAreAccepted
unfolding made_certificate
certified g s t whole from to =
    let k = made_good g s t whole from to in
    let p = free_short g whole s from in
    let q = free_short g whole t to in
    let sides = whole.sides in
    let narrow = sides.narrow in
    let low = sides.low in
    let claim : Claim = made_claim g s t in
    let spelled = text_spells g.width g.height s t claim (omega arith) (omega arith) (sides_are g whole) p q
    k.fits in
    record {
      spelled = spelled;
      read = certificate_of_spelled (made_certificate g s t) (stated g s t claim) spelled;
      short = text_length g.width g.height s t claim narrow low p q k.fits k.few_points;
      accepted = k.accepted;
      cells = k.cells;
    }
