-- Where a neighbour is forced, by the cells beside two cells of a run.
use Rattle.std.proofs.lemmas.Bool.Decides.{nat_tests}
use Rattle.std.proofs.lemmas.Grind.{common_steps}
use Rattle.std.proofs.Common.{◌≡◌, arith, Bool, true, false, not, ◌&&◌, ◌||◌, refl, ap, sym, ◌∙◌}
use Rattle.std.specs.Prelude.{Option, Some, is_some}
use Rattle.grid_moves.specs.declared.Cell.{Cell}
use Rattle.grid_moves.specs.declared.Corner.{Corner}
use Rattle.grid_moves.specs.declared.Dir.{Dir}
use Rattle.grid_moves.specs.Grid.{GridData, is_free}
use Rattle.grid_moves.specs.Move.{legal_ahead, is_open, is_passable, may_cut, may_slip}
use Rattle.grid_moves.proofs.Legal.{and_both, legal_is, by_cut, passable-cut, passable-uncut}
use Rattle.std.proofs.lemmas.Bool.{cond-true, cond-false, or_left, or_right}
use Rattle.grid_moves.proofs.Besides.{passable-turned}
use Rattle.pruning.specs.declared.turns.Side.{Side}
use Rattle.pruning.specs.declared.turns.Side.TheVariants.{Right, Left}
use Rattle.pruning.specs.Turns.{turn, quarter, rear, is_diagonal}
use Rattle.pruning.specs.Allowed.{is_blocked, can_move}
use Rattle.pruning.specs.Marked.{is_forced, is_forced_on}
use Rattle.pruning.proofs.Places.{Place, move}
use Rattle.pruning.proofs.Table.{straight_back, straight_side, diagonal_back, turn_parity, quarter_parity}
use Rattle.pruning.proofs.Table.{turn_back}
use Rattle.pruning.proofs.Moves.{can_move-straight, can_move-diagonal}
use Rattle.pruning.proofs.Bridging.{place_of, free_place, open_there, Leads, leads_there, legal_leads}
use Rattle.jump_plain.specs.declared.beside.Sides.{Sides}
use Rattle.jump_plain.specs.Beside.{sides_of, sides_ahead, opens}
use Rattle.jump_plain.specs.Reach.{first_sides, sides_after, sides_passed}

abbrev free_sides : Sides
free_sides = record { right = true; left = true }

abbrev sides : Bool → Bool → Sides
sides a b = record { right = a; left = b }

-- which cells a forced neighbour asks for, by the rule
module _ (r : Corner) (blocked can : Dir → Bool) (d : Dir) (s : Side) where
  uncut : may_cut r ≡ false → is_diagonal d ≡ false
      → is_forced_on r blocked can d s ≡ (blocked (rear s d) && can (quarter s d))
  uncut e h = rw (e, h) refl

  cut : may_cut r ≡ true → is_diagonal d ≡ false
      → is_forced_on r blocked can d s ≡ (blocked (quarter s d) && can (turn s d))
  cut e h = rw (e, h) refl

  cut_past : is_diagonal d ≡ true → blocked (rear s d) ≡ false → is_forced_on r blocked can d s ≡ false
  cut_past h k = by_cut r (λ e. rw (e, h) refl) (λ e. rw (e, h, k) refl)

-- a move between two cells, one of them free, passes where one may be cut
passes : (r : Corner) (a b c : Bool) → may_cut r ≡ true → (b || c) ≡ true → (a && is_passable r b c) ≡ a
passes r a b c e h = rw (passable-cut r e b c h) (grind arith)

-- past a blocked cell ahead a move leads between two blocked cells
slips : (r : Corner) (o b c : Bool) → b ≡ false
    → (not c && (o && is_passable r b c)) ≡ (may_slip r && (not c && o))
slips r o b c h = grind (arith, nat_tests, common_steps)

passes_both : (r : Corner) (a b : Bool) → may_cut r ≡ false → is_passable r a b ≡ true
    → (a ≡ true) × (b ≡ true)
passes_both r a b e h = and_both a b (sym (passable-uncut r e a b) ∙ h)

module _ (g : GridData) (u v : Cell) (d : Dir) (l : Leads g u v d) where
  source : is_free g u ≡ true
  source = (legal_is g u v l.legal).source

  target : is_free g v ≡ true
  target = (legal_is g u v l.legal).target

  -- one cell, seen from two
  pub seen_from : (f h : Dir) → move f (move d (place_of u)) ≡ move h (place_of u)
      → is_open g v f ≡ is_open g u h
  seen_from f h s = grind (arith, nat_tests, common_steps, open_there, free_place, move, leads_there)

  open_ahead : is_open g u d ≡ true
  open_ahead = open_there g u d ∙ ap (λ (p : Place). free_place g p) (leads_there g u v d l) ∙ target

  -- where no corner is cut a neighbour is forced at v where the side opens from u to v
  forced_there : may_cut g.corner ≡ false → is_diagonal d ≡ false → (s : Side)
      → is_forced_on g.corner (is_blocked g v) (can_move g v) d s
      ≡ (not (is_open g u (quarter s d)) && is_open g v (quarter s d))
  forced_there r h s = uncut g.corner (is_blocked g v) (can_move g v) d s r h ∙ rw (
    seen_from (rear s d) (quarter s d) (straight_back s d (place_of u) h),
    can_move-straight g v (quarter s d) target (quarter_parity s d ∙ h),
  ) refl

  pub is_forced-there : may_cut g.corner ≡ false → is_diagonal d ≡ false
      → is_forced g v d ≡ opens (sides_of g u d) (sides_of g v d)
  is_forced-there r h = rw (forced_there r h Right, forced_there r h Left) refl

  -- where one may be cut a neighbour is forced at u there
  turns_aside : may_cut g.corner ≡ true → is_diagonal d ≡ false → (s : Side)
      → can_move g u (turn s d) ≡ is_open g u (turn s d)
  turns_aside r h Right =
      let beside : is_open g u (turn Left (turn Right d)) ≡ true = rw (turn_back Right d) open_ahead in
      grind (arith, nat_tests, common_steps, can_move-diagonal, source, turn_parity, passes, or_left)
  turns_aside r h Left =
      let beside : is_open g u (turn Right (turn Left d)) ≡ true = rw (turn_back Left d) open_ahead in
      grind (arith, nat_tests, common_steps, can_move-diagonal, source, turn_parity, passes, or_right)

  forced_here : may_cut g.corner ≡ true → is_diagonal d ≡ false → (s : Side)
      → is_forced_on g.corner (is_blocked g u) (can_move g u) d s
      ≡ (not (is_open g u (quarter s d)) && is_open g v (quarter s d))
  forced_here r h s = cut g.corner (is_blocked g u) (can_move g u) d s r h
      ∙ rw (turns_aside r h s, seen_from (quarter s d) (turn s d) (straight_side s d (place_of u) h)) refl

  pub is_forced-here : may_cut g.corner ≡ true → is_diagonal d ≡ false
      → is_forced g u d ≡ opens (sides_of g u d) (sides_of g v d)
  is_forced-here r h = rw (forced_here r h Right, forced_here r h Left) refl

  -- after a diagonal move past two free cells nothing is forced
  free_behind : (s : Side) → is_diagonal d ≡ true → is_open g u (turn s d) ≡ true
      → is_forced_on g.corner (is_blocked g v) (can_move g v) d s ≡ false
  free_behind s h o = cut_past g.corner (is_blocked g v) (can_move g v) d s h
      (ap not (seen_from (rear s d) (turn s d) (diagonal_back s d (place_of u) h) ∙ o))

  pub is_forced-past : is_diagonal d ≡ true → is_open g u (turn Right d) ≡ true
      → is_open g u (turn Left d) ≡ true → is_forced g v d ≡ false
  is_forced-past h o p = rw (free_behind Right h o, free_behind Left h p) refl

  -- where no corner is cut the cells beside a diagonal move are free, also as seen from its end
  pub free_rear : may_cut g.corner ≡ false → is_diagonal d ≡ true → can_move g u d ≡ true → (s : Side)
      → is_open g v (rear s d) ≡ true
  free_rear r h m s = seen_from (rear s d) (turn s d) (diagonal_back s d (place_of u) h) ∙ free_beside s
    where
      both : (is_open g u (turn Left d) ≡ true) × (is_open g u (turn Right d) ≡ true)
      both = grind (arith, nat_tests, common_steps, and_both, can_move-diagonal, source, passes_both)

      free_beside : (s : Side) → is_open g u (turn s d) ≡ true
      free_beside s = grind (arith, nat_tests, common_steps, both)

-- the same in the words of code, in which the components are named by other names
pub clear_past : (g : GridData) (u v : Cell) (d : Dir) → legal_ahead g u d ≡ Some v
    → is_diagonal d ≡ true → (e f : Dir) → e ≡ turn Right d → f ≡ turn Left d → (right left clear : Bool)
    → right ≡ is_open g u e → left ≡ is_open g u f → clear ≡ (right && left)
    → clear ≡ true → is_forced g v d ≡ false
clear_past g u v d legal h e f m n right left clear i j k c =
    grind (arith, nat_tests, common_steps, and_both, is_forced-past, legal_leads)

-- where one may be cut, at the end of a run a neighbour is forced only past it and a blocked side
module _ (g : GridData) (u : Cell) (d : Dir) (free : is_free g u ≡ true) (r : may_cut g.corner ≡ true) where
  forced_past : is_diagonal d ≡ false → is_open g u d ≡ false → (s : Side)
      → is_forced_on g.corner (is_blocked g u) (can_move g u) d s
      ≡ (may_slip g.corner && (not (is_open g u (quarter s d)) && is_open g u (turn s d)))
  forced_past h o Right =
      grind (arith, nat_tests, common_steps, turn_back, cut, can_move-diagonal, turn_parity, slips)
  forced_past h o Left =
      let beside : is_open g u (turn Right (turn Left d)) ≡ false = rw (turn_back Left d) o in
      grind (arith, nat_tests, common_steps, cut, can_move-diagonal, turn_parity, passable-turned, slips)

  pub is_forced-end : is_diagonal d ≡ false → is_open g u d ≡ false
      → is_forced g u d ≡ (may_slip g.corner && opens (sides_of g u d) (sides_ahead g u d))
  is_forced-end h o = rw (forced_past h o Right, forced_past h o Left) (joined (may_slip g.corner) _ _)
    where
      joined : (s a b : Bool) → (s && a || s && b) ≡ (s && (a || b))
      joined s a b = grind arith

same_sides : (a b c e : Bool) → a ≡ c → b ≡ e → sides a b ≡ sides c e
same_sides a b c e h k = rw (h, k) refl

-- a scan begins at the end of a diagonal move with the sides that are known there
pub sides_known : (g : GridData) (u v : Cell) (d : Dir) → legal_ahead g u d ≡ Some v → is_diagonal d ≡ true
    → (beside : Sides) → beside ≡ sides_ahead g v d → (s : Side)
    → sides_after g.corner beside s ≡ first_sides g.corner g v (turn s d)
sides_known g u v d legal h beside is s =
    ap (λ (c : Sides). sides_after g.corner c s) is ∙ by_rule s
  where
    rear : may_cut g.corner ≡ false → (s : Side) → is_open g v (turn s (quarter s d)) ≡ true
    rear r s = free_rear g u v d (legal_leads g u v d legal) r h (ap (λ (o : Option Cell). is_some o) legal) s

    known : may_cut g.corner ≡ false → (s : Side)
        → sides_after g.corner (sides_ahead g v d) s ≡ sides_passed (sides_ahead g v d) s
    known r s = cond-false (may_cut g.corner) free_sides (sides_passed (sides_ahead g v d) s) r

    uncut : may_cut g.corner ≡ false → (s : Side)
        → sides_after g.corner (sides_ahead g v d) s ≡ sides_of g v (turn s d)
    uncut h1 s = grind (arith, nat_tests, common_steps, known, same_sides, rear, turn_back)

    by_rule : (s : Side)
        → sides_after g.corner (sides_ahead g v d) s ≡ first_sides g.corner g v (turn s d)
    by_rule s = grind (arith, nat_tests, common_steps, by_cut, uncut, cond-false, cond-true)
