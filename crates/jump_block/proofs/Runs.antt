-- What a scan finds, said of the grid: along a run from a cell, by the cells after so many moves.
use Rattle.std.proofs.lemmas.Grind.{common_steps}
use Rattle.std.proofs.Common.{◌≡◌, ℕ, zero, suc, ◌+◌, ◌<◌, ◌≤◌, arith, Bool, true, false, not, ◌&&◌, ◌||◌}
use Rattle.std.proofs.Common.{refl, ap, sym, ◌∙◌}
use Rattle.std.specs.Prelude.{Option, Some, None, is_some, nat_lt, nat_le, if◌then◌else◌}
use Rattle.std.proofs.lemmas.Bool.Decides.{nat_tests}
use Rattle.grid_moves.specs.declared.Cell.{Cell}
use Rattle.grid_moves.specs.declared.Corner.{Corner}
use Rattle.grid_moves.specs.declared.Dir.{Dir}
use Rattle.grid_moves.specs.Grid.{GridData, is_free}
use Rattle.grid_moves.specs.Move.{ahead, legal_ahead, is_open, may_slip}
use Rattle.grid_moves.proofs.Legal.{legal_is, by_cut, passable-uncut}
use Rattle.pruning.specs.declared.turns.Side.{Side}
use Rattle.pruning.specs.declared.turns.Side.TheVariants.{Right, Left}
use Rattle.pruning.specs.Turns.{is_diagonal, quarter, turn}
use Rattle.pruning.specs.First.{run_length}
use Rattle.pruning.proofs.Moves.{can_move-straight}
use Rattle.pruning.proofs.Bridging.{leads_from, leads_legal, legal_leads, one_of, place_of}
use Rattle.pruning.proofs.Table.{straight_side}
use Rattle.jump_plain.specs.declared.beside.Sides.{Sides}
use Rattle.jump_plain.specs.declared.scan.Reach.{Reach}
use Rattle.jump_plain.specs.Beside.{sides_of, sides_ahead, opens}
use Rattle.jump_plain.specs.Reach.{reach_of, further, mark_ahead, first_sides, stop_of}
use Rattle.pruning.proofs.Lengths.{run_length-next, run_length-none}
use Rattle.jump_plain.proofs.Forcing.{seen_from}
use Rattle.jump_plain.proofs.Scanning.{left_with, reach_begun, reached_end, reached_mark, reached_next}
use Rattle.jump_block.specs.declared.block.Halt.{Halt}
use Rattle.jump_block.specs.Trail.{Trail, IsClear, Halts, halts, opens_beside}
use Rattle.jump_block.specs.Scan.{Finds, looked, nearer}
use Rattle.jump_block.specs.Source.{reach_of_halt, scanned}
use Rattle.jump_block.specs.Source as block

none_if : (o : Option Cell) → is_some o ≡ false → o ≡ None
none_if o h1 = grind (arith, nat_tests, common_steps)

-- the cells half ahead are the sides of the next cell
sides_seen : (g : GridData) (u v : Cell) (d : Dir) → legal_ahead g u d ≡ Some v → is_diagonal d ≡ false
    → sides_ahead g u d ≡ sides_of g v d
sides_seen g u v d legal h = rw (seen Right, seen Left) refl
  where
    seen : (s : Side) → is_open g u (turn s d) ≡ is_open g v (quarter s d)
    seen s = sym (seen_from g u v d (legal_leads g u v d legal) (quarter s d) (turn s d)
        (straight_side s d (place_of u) h))

-- where a diagonal move may pass between two blocked cells a corner may be cut, and no mark stands ahead
slips_here : (r : Corner) → may_slip r ≡ true → (k : ℕ) → k + mark_ahead r ≡ k
slips_here r e k = grind (arith, nat_tests, common_steps, by_cut, passable-uncut)

-- so many cells ahead: where each stands, whether it is free, and its sides, those of the first cell as a
-- scan begins
module _ (g : GridData) (x : Cell) (d : Dir) (h : is_diagonal d ≡ false)
    (place : ℕ → Cell) (free : ℕ → Bool) (sides : ℕ → Sides) (starts : place 0 ≡ x)
    (start_free : is_free g x ≡ true)
    (begins : sides 0 ≡ first_sides g.corner g x d)
    (open_is : (k : ℕ) → is_open g (place k) d ≡ free (suc k))
    (goes : (k : ℕ) → is_open g (place k) d ≡ true → ahead d (place k) ≡ Some (place (suc k)))
    (sides_are : (k : ℕ) → sides (suc k) ≡ sides_ahead g (place k) d) where
  -- a scan halts between two cells
  abbrev pub halts_at : ℕ → Bool
  halts_at k = not (free (suc k)) || opens (sides k) (sides (suc k))

  -- after so many moves
  record Comes (k : ℕ) : Type 0 where
    pub is_free_there : is_free g (place k) ≡ true
    pub left : reach_of g x d ≡ further k (left_with g.corner (sides k) g (place k) d)
    pub run : run_length g x d ≡ k + run_length g (place k) d

  moves_on : (k : ℕ) → is_free g (place k) ≡ true → free (suc k) ≡ true
      → legal_ahead g (place k) d ≡ Some (place (suc k))
  moves_on k f e = grind (arith, nat_tests, common_steps, can_move-straight, leads_from, leads_legal, one_of)

  sides_then : (k : ℕ) → legal_ahead g (place k) d ≡ Some (place (suc k))
      → sides (suc k) ≡ sides_of g (place (suc k)) d
  sides_then k legal = sides_are k ∙ sides_seen g (place k) (place (suc k)) d legal h

  stays_there : (k : ℕ) → is_free g (place k) ≡ true → free (suc k) ≡ false → legal_ahead g (place k) d ≡ None
  stays_there k f e = none_if (legal_ahead g (place k) d) (can_move-straight g (place k) d f h
      ∙ open_is k ∙ e)

  free_and_shut : (a b : Bool) → (not a || b) ≡ false → (a ≡ true) × (b ≡ false)
  free_and_shut a b h1 = grind (arith, nat_tests, common_steps)

  comes : (k : ℕ) → ((m : ℕ) → m < k → halts_at m ≡ false) → Comes k
  comes zero clear = record {
    is_free_there = ap (λ (c : Cell). is_free g c) starts ∙ start_free;
    left = reach_begun g x d h start_free (sides 0) begins
        ∙ ap (λ (c : Cell). further 0 (left_with g.corner (sides 0) g c d)) (sym starts);
    run = ap (λ (c : Cell). run_length g c d) (sym starts) ∙ nothing (run_length g (place 0) d);
  }
    where
      nothing : (n : ℕ) → n ≡ 0 + n
      nothing n = omega arith
  comes (suc k) clear =
      let before = comes k (λ m l. clear m (omega arith)) in
      let both = free_and_shut (free (suc k)) _ (clear k (omega arith)) in
      let legal = moves_on k before.is_free_there both.0 in
      let there =
      (legal_is g (place k) (place (suc k))
      (legal_leads g (place k) (place (suc k)) d legal).legal).target in
      let next = reached_next g (place k) d h (sides k) k (reach_of g x d) before.left
      (place (suc k)) legal
      (sides (suc k)) (sides_then k legal) (opens (sides k) (sides (suc k))) refl there both.1 in
      let one : k + 1 ≡ suc k = omega arith in
      record {
        is_free_there = there;
        left = next
            ∙ ap (λ (n : ℕ). further n (left_with g.corner (sides (suc k)) g (place (suc k)) d)) one;
        run = let longer = run_length-next g (place k) (place (suc k)) d legal in
            let so_far = before.run in
            omega arith;
      }

  -- the scan halts there first
  module _ (k : ℕ) (clear : (m : ℕ) → m < k → halts_at m ≡ false) where
    pub halted_blocked : free (suc k) ≡ false → (marked : Bool)
        → marked ≡ (may_slip g.corner && opens (sides k) (sides (suc k)))
        → record { moves = k; marked = marked } ≡ reach_of g x d
    halted_blocked e marked m = let there = comes k clear in
        reached_end g (place k) d h (sides k) k (reach_of g x d) there.left
        (stays_there k there.is_free_there e) marked
        (m ∙ ap (λ (s : Sides). may_slip g.corner && opens (sides k) s) (sides_are k))

    pub halted_run : free (suc k) ≡ false → run_length g x d ≡ k
    halted_run e =
        let there = comes k clear in
        let run = there.run in
        let none = run_length-none g (place k) d (stays_there k there.is_free_there e) in
        omega arith

    pub halted_mark : free (suc k) ≡ true → opens (sides k) (sides (suc k)) ≡ true
        → record { moves = k + mark_ahead g.corner; marked = true } ≡ reach_of g x d
    halted_mark e o = grind (arith, nat_tests, common_steps, comes, moves_on, reached_mark, sides_then)

    -- the goal is met before
    pub met_before : 0 < k → Some k ≡ stop_of (reach_of g x d) k
    met_before some =
        let there = comes k clear in
        let n : ℕ = (left_with g.corner (sides k) g (place k) d).moves in
        let reached : (nat_lt 0 k && nat_le k (k + n)) ≡ true = grind (arith, nat_tests) in
        rw there.left (rw reached refl)

  -- what a scan finds beside which the same sides open
  module _ (t : Trail) (alike : (k : ℕ) → opens_beside t k ≡ opens (sides k) (sides (suc k)))
      (alike_free : (k : ℕ) → t.free (suc k) ≡ free (suc k)) where
    halts_alike : (k : ℕ) → halts t k ≡ halts_at k
    halts_alike k = rw (alike k, alike_free k) refl

    clear_there : (n : ℕ) → IsClear t n → (m : ℕ) → m < n → halts_at m ≡ false
    clear_there n clear m l = sym (halts_alike m) ∙ clear m l

    opens_there : (a b : Bool) → (not a || b) ≡ true → a ≡ true → b ≡ true
    opens_there a b e f = grind arith

    -- a mark shows where the next cell is free, and else maybe at the last one
    marked_there : (a b : Bool) → a ≡ true → (a || b) ≡ true
    marked_there a b e = grind arith

    marked_last : (a b : Bool) → a ≡ false → (a || b) ≡ b
    marked_last a b e = grind arith

    blocked_there : (a b : Bool) → false ≡ (a || b) → a ≡ false
    blocked_there a b e = grind arith

    slip_of : (a b : Bool) → true ≡ (a && b) → a ≡ true
    slip_of a b e = grind arith

    last_mark : (passed : ℕ) (marked : Bool) → marked ≡ (may_slip g.corner && opens_beside t passed)
        → reach_of_halt g.corner (record { passed = passed; marked = marked })
        ≡ record { moves = passed; marked = marked }
    last_mark passed marked h1 = grind (arith, nat_tests, common_steps, slips_here, slip_of)

    reach_there : (passed : ℕ) (marked : Bool) → Halts g.corner t passed marked
        → reach_of_halt g.corner (record { passed = passed; marked = marked }) ≡ reach_of g x d
    reach_there passed marked h = by_next (free (suc passed)) refl
      where
        by_next : (b : Bool) → free (suc passed) ≡ b
            → reach_of_halt g.corner (record { passed = passed; marked = marked }) ≡ reach_of g x d
        by_next true e =
            ap (λ (m : Bool). reach_of_halt g.corner (record { passed = passed; marked = m }))
            (h.shown ∙ marked_there (t.free (suc passed)) _ (alike_free passed ∙ e))
            ∙ halted_mark passed (clear_there passed h.clear) e
            (opens_there (free (suc passed)) _ (sym (halts_alike passed) ∙ h.here) e)
        by_next false e =
            let last = h.shown ∙ marked_last (t.free (suc passed)) _ (alike_free passed ∙ e) in
            last_mark passed marked last
            ∙ halted_blocked passed (clear_there passed h.clear) e marked
            (last ∙ ap (λ (o : Bool). may_slip g.corner && o) (alike passed))

    pub found_stop : (to_goal : ℕ) (found : Option Halt) → Finds g.corner t to_goal found
        → block.stop_of g.corner found to_goal ≡ stop_of (reach_of g x d) to_goal
    found_stop to_goal (Some h) is =
        ap (λ (r : Reach). stop_of r to_goal) (reach_there h.passed h.marked is)
    found_stop to_goal None is = met_before to_goal (clear_there to_goal is.1) is.0

    nearer_goal : (to_goal moves : ℕ) → (nat_lt 0 to_goal && nat_le to_goal moves) ≡ true
        → (passed : ℕ) → nearer to_goal passed ≤ to_goal
    nearer_goal to_goal moves e passed = grind (arith, nat_tests, common_steps)

    nearer_passed : (to_goal passed : ℕ) → nearer to_goal passed ≤ passed
    nearer_passed to_goal passed = grind (arith, nat_tests, common_steps)

    pub found_within : (to_goal : ℕ) (found : Option Halt) → Finds g.corner t to_goal found
        → looked to_goal found ≤ scanned g x d (block.stop_of g.corner found to_goal)
    found_within to_goal None is = omega arith
    found_within to_goal (Some h) is = by_halt h.marked is
      where
        by_goal_blocked : (b : Bool) → (nat_lt 0 to_goal && nat_le to_goal h.passed) ≡ b
            → run_length g x d ≡ h.passed
            → nearer to_goal h.passed ≤ scanned g x d (if b then Some to_goal else None)
        by_goal_blocked true e run = nearer_goal to_goal h.passed e h.passed
        by_goal_blocked false e run = let n = nearer_passed to_goal h.passed in omega arith

        by_goal_marked : (b : Bool)
            → (nat_lt 0 to_goal && nat_le to_goal (h.passed + mark_ahead g.corner)) ≡ b
            → nearer to_goal h.passed
            ≤ scanned g x d (if b then Some to_goal else Some (h.passed + mark_ahead g.corner))
        by_goal_marked true e = nearer_goal to_goal (h.passed + mark_ahead g.corner) e h.passed
        by_goal_marked false e = let n = nearer_passed to_goal h.passed in omega arith

        by_halt : (b : Bool) → Halts g.corner t h.passed b
            → nearer to_goal h.passed
            ≤ scanned g x d (block.stop_of g.corner (Some (record { passed = h.passed; marked = b })) to_goal)
        by_halt true halt =
            by_goal_marked (nat_lt 0 to_goal && nat_le to_goal (h.passed + mark_ahead g.corner)) refl
        by_halt false halt = by_goal_blocked (nat_lt 0 to_goal && nat_le to_goal h.passed) refl
            (halted_run h.passed (clear_there h.passed halt.clear)
            (sym (alike_free h.passed) ∙ blocked_there (t.free (suc h.passed)) _ halt.shown))

-- the cells ahead as a scan passes them
pub record IsRay (g : GridData) (x : Cell) (d : Dir) (place : ℕ → Cell) (free : ℕ → Bool)
    (sides : ℕ → Sides) : Type 0 where
  pub starts : place 0 ≡ x
  pub begins : sides 0 ≡ first_sides g.corner g x d
  pub open_is : (k : ℕ) → is_open g (place k) d ≡ free (suc k)
  pub goes : (k : ℕ) → is_open g (place k) d ≡ true → ahead d (place k) ≡ Some (place (suc k))
  pub sides_are : (k : ℕ) → sides (suc k) ≡ sides_ahead g (place k) d

-- what a scan of this trail finds tells the first stop, and how many cells are looked at
abbrev pub FindsStop : GridData → Cell → Dir → Corner → Trail → Type 0
FindsStop g x d rule t = (to_goal : ℕ) (found : Option Halt) → Finds rule t to_goal found
    → (block.stop_of rule found to_goal ≡ stop_of (reach_of g x d) to_goal)
    × (looked to_goal found ≤ scanned g x d (block.stop_of rule found to_goal))

pub ray_finds : (g : GridData) (x : Cell) (d : Dir) → is_diagonal d ≡ false → is_free g x ≡ true
    → (place : ℕ → Cell) (free : ℕ → Bool) (sides : ℕ → Sides)
    → IsRay g x d place free sides → (t : Trail)
    → ((k : ℕ) → opens_beside t k ≡ opens (sides k) (sides (suc k)))
    → ((k : ℕ) → t.free (suc k) ≡ free (suc k)) → FindsStop g x d g.corner t
ray_finds g x d h f place free sides ray t alike alike_free to_goal found is = (
  found_stop g x d h place free sides ray.starts f ray.begins ray.open_is ray.goes ray.sides_are t
      alike alike_free to_goal found is,
  found_within g x d h place free sides ray.starts f ray.begins ray.open_is ray.goes ray.sides_are t
      alike alike_free to_goal found is,
)
