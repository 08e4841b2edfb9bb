-- The allowed directions that are read from tables.
use Rattle.std.proofs.Common.{rules}
use Rattle.std.proofs.lemmas.Bool.Decides.{nat_tests}
use Rattle.std.proofs.Common.{◌≡◌, arith, Bool, true, false, not, refl, ap, sym, ◌∙◌}
use Rattle.std.specs.Prelude.{ℤ, Some, filter}
use Rattle.std.proofs.lemmas.List.Elements.{filter_agree}
use Rattle.grid_moves.specs.declared.Cell.{Cell}
use Rattle.grid_moves.specs.declared.Corner.{Corner}
use Rattle.grid_moves.specs.declared.Corner.TheVariants.{Never, Both}
use Rattle.grid_moves.specs.declared.Dir.{Dir}
use Rattle.grid_moves.specs.Grid.{GridData, is_free}
use Rattle.grid_moves.specs.Move.{all_dirs, is_dir, is_open, legal_ahead, may_cut, opposite, cell_after}
use Rattle.grid_moves.specs.Ring.{ring_by, is_free_on, is_shut, leads_on}
use Rattle.grid_moves.proofs.Besides.{free_on_ring_by}
use Rattle.grid_moves.proofs.Legal.{legal_is, by_cut}
use Rattle.pruning.specs.declared.Arrival.{Arrival}
use Rattle.pruning.specs.declared.Arrival.TheVariants.{Start, By}
use Rattle.pruning.specs.declared.turns.Side.{Side}
use Rattle.pruning.specs.declared.turns.Side.TheVariants.{Right, Left}
use Rattle.pruning.specs.Turns.{quarter, rear, is_diagonal}
use Rattle.pruning.specs.Allowed.{is_blocked, can_move, is_kept, is_allowed, allowed_dirs}
use Rattle.pruning.specs.Ring.{is_allowed_on}
use Rattle.pruning.specs.Source.{CanArrive}
use Rattle.pruning.proofs.Table.{straight_back, turn_parity, quarter_parity, by_parity, by_test, same_dir}
use Rattle.pruning.proofs.Places.{Place, move}
use Rattle.pruning.proofs.Moves.{can_move-straight}
use Rattle.pruning.proofs.Bridging.{place_of, free_place, open_there, leads_there, legal_leads}
use Rattle.pruning.proofs.Running.{run_walked}
use Rattle.plus_tables.specs.Tables.{TablesData, AreTablesOf, entry_at, is_on}
use Rattle.plus_tables.specs.Reading.{is_move, asks_behind, free_past, free_read, read_rule}
use Rattle.plus_tables.specs.Reading.{allowed_by, IsBeforeOn}
use Rattle.plus_tables.proofs.Clear.{is_move-is}
use Rattle.plus_tables.proofs.Refreshing.{on_map}
use Rattle.plus_tables.proofs.StopRead.{free_is_inside}

-- what is kept hangs on the walls that the rule asks for
kept_alike : (r : Corner) (p q : Dir → Bool) (d : Dir)
    → ((s : Side) → may_cut r ≡ false → is_diagonal d ≡ false → p (rear s d) ≡ q (rear s d))
    → ((s : Side) → is_diagonal d ≡ true → p (rear s d) ≡ q (rear s d))
    → ((s : Side) → is_diagonal d ≡ false → p (quarter s d) ≡ q (quarter s d))
    → (e : Dir) → is_kept r p (By d) e ≡ is_kept r q (By d) e
kept_alike r p q d behind rears quarters e = by_parity d
    (λ h. rw (h, rears Right h, rears Left h) refl)
    (λ h. by_cut r
    (λ u. rw (u, h, behind Right u h, behind Left u h) refl)
    (λ u. rw (u, h, quarters Right h, quarters Left h) refl))

-- the two directions behind are not kept
rear_not_kept : (r : Corner) (blocked : Dir → Bool) (s : Side) (d : Dir)
    → is_kept r blocked (By d) (rear s d) ≡ false
rear_not_kept r blocked s d = grind (arith, nat_tests)

-- which cells count as free by the moves to them
pub free_read_here : (r : Corner) (entry : Cell → Dir → ℤ) (at : Cell) (by : Arrival) (e : Dir)
    → asks_behind r by ≡ false → free_read r entry at by e ≡ is_move (entry at e)
free_read_here r entry at by e h = grind (arith, nat_tests)

pub free_read_past : (entry : Cell → Dir → ℤ) (at : Cell) (d e : Dir) → is_diagonal d ≡ false
    → free_read Never entry at (By d) e ≡ free_past entry at d e
free_read_past entry at d e h = rw h refl

by_move : (r : Corner) (entry : Cell → Dir → ℤ) (at : Cell) (d e : Dir)
    → ((s : Side) → is_diagonal d ≡ false → is_dir e (rear s d) ≡ false)
    → free_read r entry at (By d) e ≡ is_move (entry at e)
by_move r entry at d e off = by_cut r
    (λ u. by_parity d (λ h. rw (u, h) refl) (λ h. rw (u, h, off Right h, off Left h) refl))
    (λ u. rw u refl)

-- what is kept hangs on whether a corner may be cut alone
read_rule_kept : (r : Corner) (blocked : Dir → Bool) (by : Arrival) (e : Dir)
    → is_kept (read_rule r) blocked by e ≡ is_kept r blocked by e
read_rule_kept r blocked by e = grind (arith, nat_tests)

-- under `one` all is allowed as under `both`
pub allowed_cut : (r : Corner) (entry : Cell → Dir → ℤ) (at : Cell) (by : Arrival) → may_cut r ≡ true
    → allowed_by r entry at by ≡ allowed_by Both entry at by
allowed_cut r entry at by h = grind (arith, nat_tests)

pub allowed_uncut : (r : Corner) (entry : Cell → Dir → ℤ) (at : Cell) (by : Arrival) → may_cut r ≡ false
    → allowed_by r entry at by ≡ allowed_by Never entry at by
allowed_uncut r entry at by h = grind (arith, nat_tests)

-- the cell before
pub cell_before : (g : GridData) (u at : Cell) (d : Dir) → legal_ahead g u d ≡ Some at
    → u ≡ cell_after (opposite d) 1 at
cell_before g u at d e =
    let source = (legal_is g u at (legal_leads g u at d e).legal).source in
    let walk = run_walked g d 1 u at source (rw e refl) in
    grind (arith, nat_tests)

module _ (t : TablesData) (g : GridData) (right : AreTablesOf t g) where
  -- an entry tells whether a move is legal
  pub legal_read : (c : Cell) (d : Dir) → is_free g c ≡ true → is_move (entry_at t c d) ≡ can_move g c d
  legal_read c d f = ap (λ (z : ℤ). is_move z) (right.right c d (free_is_inside g c f)) ∙ is_move-is g c d f

  -- and a straight one whether a cell is blocked
  blocked_read : (c : Cell) (d : Dir) → is_free g c ≡ true → is_diagonal d ≡ false
      → not (is_move (entry_at t c d)) ≡ is_blocked g c d
  blocked_read c d f h = ap (λ (b : Bool). not b) (legal_read c d f ∙ can_move-straight g c d f h)

  -- where they count as free by the moves to them, straight cells are read right
  straight_open : (at : Cell) → is_free g at ≡ true → (free : Dir → Bool)
      → ((e : Dir) → is_diagonal e ≡ false → free e ≡ can_move g at e) → (e : Dir) → is_diagonal e ≡ false
      → is_free_on (ring_by free) e ≡ is_open g at e
  straight_open at f free straight e p = free_on_ring_by free e ∙ straight e p ∙ can_move-straight g at e f p

  -- where cells count as free by the moves to them, but for those behind that are not kept, and walls are
  -- read right, what is allowed is read right
  module _ (at : Cell) (f : is_free g at ≡ true) (by : Arrival) (free : Dir → Bool)
      (straight : (e : Dir) → is_diagonal e ≡ false → free e ≡ can_move g at e)
      (moves : (e : Dir) → is_kept g.corner (is_blocked g at) by e ≡ true → free e ≡ can_move g at e)
      (kept : (e : Dir) → is_kept g.corner (is_shut (ring_by free)) by e
      ≡ is_kept g.corner (is_blocked g at) by e) where
    abbrev rule : Corner
    rule = read_rule g.corner

    leads_read : (e : Dir) → free e ≡ can_move g at e → leads_on rule (ring_by free) e ≡ can_move g at e
    leads_read e k = grind (arith, nat_tests)

    kept_read : (e : Dir) → is_kept rule (is_shut (ring_by free)) by e
        ≡ is_kept g.corner (is_blocked g at) by e
    kept_read e = read_rule_kept g.corner (is_shut (ring_by free)) by e ∙ kept e

    each_read : (e : Dir) → is_allowed_on rule (ring_by free) by e ≡ is_allowed g at by e
    each_read e = by_test (is_kept g.corner (is_blocked g at) by e)
        (λ h. rw (kept_read e, h, leads_read e (moves e h)) refl)
        (λ h. rw (kept_read e, h) refl)

    all_read : filter (is_allowed_on rule (ring_by free) by) all_dirs ≡ allowed_dirs g at by
    all_read = filter_agree (is_allowed_on rule (ring_by free) by) (is_allowed g at by) each_read all_dirs

  module _ (u at : Cell) (d : Dir) (e : legal_ahead g u d ≡ Some at) where
    source : is_free g u ≡ true
    source = (legal_is g u at (legal_leads g u at d e).legal).source

    target : is_free g at ≡ true
    target = (legal_is g u at (legal_leads g u at d e).legal).target

    -- one cell, seen from the cell before
    seen_behind : (s : Side) → is_diagonal d ≡ false → is_open g u (quarter s d) ≡ is_open g at (rear s d)
    seen_behind s h = open_there g u (quarter s d)
        ∙ ap (λ (p : Place). free_place g p) (sym (straight_back s d (place_of u) h)
        ∙ ap (λ (p : Place). move (rear s d) p) (leads_there g u at d (legal_leads g u at d e)))
        ∙ sym (open_there g at (rear s d))

    rear_parity : (s : Side) → is_diagonal (rear s d) ≡ not (is_diagonal d)
    rear_parity s = turn_parity s (quarter s d) ∙ ap not (quarter_parity s d)

    -- where no corner is cut, after a straight move
    wall_behind : (s : Side) → is_diagonal d ≡ false
        → not (is_move (entry_at t (cell_after (opposite d) 1 at) (quarter s d))) ≡ is_blocked g at (rear s d)
    wall_behind s h = grind (arith, nat_tests, cell_before, blocked_read, source, quarter_parity, seen_behind)

    abbrev free : Dir → Bool
    free = free_read g.corner (entry_at t) at (By d)

    straight : (to : Dir) → is_diagonal to ≡ false → free to ≡ can_move g at to
    straight to p = search (rules, by_move, legal_read, target, by_test, rear_parity, same_dir)

    moves : (to : Dir) → is_kept g.corner (is_blocked g at) (By d) to ≡ true → free to ≡ can_move g at to
    moves to k = by_move g.corner (entry_at t) at d to (λ s h. not_behind s) ∙ legal_read at to target
      where
        not_behind : (s : Side) → is_dir to (rear s d) ≡ false
        not_behind s = by_test (is_dir to (rear s d))
            (λ b. absurd (let i = rear_not_kept g.corner (is_blocked g at) s d in
            let j : is_kept g.corner (is_blocked g at) (By d) (rear s d) ≡ true =
            ap (λ (e : Dir). is_kept g.corner (is_blocked g at) (By d) e) (sym (same_dir to (rear s d) b))
            ∙ k in cc))
            (λ b. b)

    behind_read : (s : Side) → may_cut g.corner ≡ false → is_diagonal d ≡ false
        → free (rear s d) ≡ is_move (entry_at t (cell_after (opposite d) 1 at) (quarter s d))
    behind_read s h i = grind (arith, nat_tests)

    kept : (to : Dir) → is_kept g.corner (is_shut (ring_by free)) (By d) to
        ≡ is_kept g.corner (is_blocked g at) (By d) to
    kept = kept_alike g.corner (is_shut (ring_by free)) (is_blocked g at) d
        (λ s r h. ap not (free_on_ring_by free (rear s d) ∙ behind_read s r h) ∙ wall_behind s h)
        (λ s h. ap not (straight_open at target free straight (rear s d) (rear_parity s ∙ ap not h)))
        (λ s h. ap not (straight_open at target free straight (quarter s d) (quarter_parity s d ∙ h)))

    pub arrived : allowed_by g.corner (entry_at t) at (By d) ≡ allowed_dirs g at (By d)
    arrived = all_read at target (By d) free straight moves kept

    -- the cell before lies on the map
    pub before_on : is_on t (cell_after (opposite d) 1 at) ≡ true
    before_on = ap (λ (c : Cell). is_on t c) (sym (cell_before g u at d e)) ∙ on_map t g u right.sized source

  started : (at : Cell) → is_free g at ≡ true
      → allowed_by g.corner (entry_at t) at Start ≡ allowed_dirs g at Start
  started at f = search (rules, all_read, legal_read)

  -- by any arrival
  pub allowed_by_tables : (at : Cell) (by : Arrival) → is_free g at ≡ true → CanArrive g at by
      → allowed_by t.corner (entry_at t) at by ≡ allowed_dirs g at by
  allowed_by_tables at by f can =
      ap (λ (r : Corner). allowed_by r (entry_at t) at by) right.sized.corner ∙ under_rule by can
    where
      under_rule : (by : Arrival) → CanArrive g at by
          → allowed_by g.corner (entry_at t) at by ≡ allowed_dirs g at by
      under_rule Start can = started at f
      under_rule (By d) can = arrived can.0 at d can.1

  pub before_on_map : (at : Cell) (by : Arrival) → CanArrive g at by → IsBeforeOn t at by
  before_on_map at by h = grind (arith, nat_tests, before_on)
