-- The first local fact: each turn that is not allowed has a replacement. It costs less, or the turn is from a
-- straight direction to a diagonal one, which goes first.
use Rattle.std.proofs.Common.{◌≡◌, refl, ap, sym, ◌∙◌, [], ◌∷◌, arith, Bool, true, false, not, ◌&&◌}
use Rattle.std.proofs.Common.{◌⊎◌, inl, inr, List}
use Rattle.std.proofs.lemmas.Bool.{or_parts}
use Rattle.root2_cost.specs.declared.Cost.{Cost}
use Rattle.root2_cost.specs.Order.{IsLess}
use Rattle.root2_cost.specs.Sums.{add_costs, no_cost}
use Rattle.root2_cost.proofs.AtMost.{less_at_most}
use Rattle.grid_moves.specs.declared.Cell.{Cell}
use Rattle.grid_moves.specs.declared.Corner.{Corner}
use Rattle.grid_moves.specs.declared.Dir.{Dir}
use Rattle.grid_moves.specs.Grid.{GridData, is_free}
use Rattle.grid_moves.specs.Move.{is_passable, may_cut, opposite, is_open, dir_cost}
use Rattle.grid_moves.specs.Walk.{IsWalk, cost_of}
use Rattle.grid_moves.proofs.Legal.{legal_is, by_cut, passable-cut, passable-uncut}
use Rattle.grid_moves.proofs.Costs.{cost_there}
use Rattle.pruning.specs.declared.Arrival.TheVariants.{By}
use Rattle.pruning.specs.declared.turns.Side.{Side}
use Rattle.pruning.specs.declared.turns.Side.TheVariants.{Right, Left}
use Rattle.pruning.specs.Turns.{turn, quarter, rear, is_diagonal}
use Rattle.pruning.specs.Allowed.{is_blocked, keeps_eighth, keeps_quarter, is_kept, is_allowed}
use Rattle.pruning.specs.Facts.{HasBetter, IsSmaller, shorter, straighter, earlier, TurnsAreReplaced}
use Rattle.pruning.proofs.Places.{Place, move}
use Rattle.pruning.proofs.Table.{straight_back, straight_side, diagonal_back, diagonal_side, reversal}
use Rattle.pruning.proofs.Table.{moved_both, Turned, turned, ahead, eighth, side, back, about, turn_parity}
use Rattle.pruning.proofs.Table.{quarter_parity, turn_back, by_parity}
use Rattle.pruning.proofs.Bridging.{place_of, free_place, open_there, one_cell, cell_there, Leads}
use Rattle.pruning.proofs.Bridging.{legal_leads, leads_can, leads_there, leads_passes, leads_over, Passes}
use Rattle.pruning.proofs.Kept.{kept-on, kept-eighth, kept-quarter}

passable : (r : Corner) (a b : Bool) → b ≡ true → (may_cut r ≡ false → a ≡ true) → is_passable r a b ≡ true
passable r a b h k = grind (arith, by_cut, passable-uncut, passable-cut)

passable-left : (r : Corner) (a b : Bool) → a ≡ true → (may_cut r ≡ false → b ≡ true)
    → is_passable r a b ≡ true
passable-left r a b h k = grind (arith, by_cut, passable-uncut, passable-cut)

-- the cost of two moves
abbrev pair_cost : Dir → Dir → Cost
pair_cost f h = add_costs (dir_cost f) (add_costs (dir_cost h) no_cost)

-- a walk from u to w that costs less than those by way of v, and is smaller
pub record HasCheaper (g : GridData) (u v w : Cell) : Type 0 where
  pub instead : List Cell
  pub walk : IsWalk g u w instead
  pub less : IsLess (cost_of (u ∷ instead)) (cost_of (u ∷ v ∷ w ∷ []))
  pub smaller : IsSmaller (u ∷ instead) (u ∷ v ∷ w ∷ [])

-- d is straight and e diagonal, and from u to w lead a move in e and then one in d
pub record GoesFirst (g : GridData) (u w : Cell) (d e : Dir) : Type 0 where
  pub straight : is_diagonal d ≡ false
  pub diagonal : is_diagonal e ≡ true
  pub by : Cell
  pub first : Leads g u by e
  pub second : Leads g by w d

module _ (g : GridData) (u v w : Cell) (d e : Dir) (l : Leads g u v d) (m : Leads g v w e) where
  source : is_free g u ≡ true
  source = (legal_is g u v l.legal).source

  between : is_free g v ≡ true
  between = (legal_is g u v l.legal).target

  target : is_free g w ≡ true
  target = (legal_is g v w m.legal).target

  -- where the turn leads, and what is open round its cells
  there : move e (move d (place_of u)) ≡ place_of w
  there = ap (λ (p : Place). move e p) (leads_there g u v d l) ∙ leads_there g v w e m

  open_ahead : is_open g u d ≡ true
  open_ahead = open_there g u d ∙ ap (λ (p : Place). free_place g p) (leads_there g u v d l) ∙ between

  open_from : (f h : Dir) → move f (move d (place_of u)) ≡ move h (place_of u)
      → is_open g v f ≡ is_open g u h
  open_from f h s = grind (arith, open_there, free_place, move, leads_there)

  -- a reversal: nothing
  undone : w ≡ u → HasCheaper g u v w
  undone s = record {
    instead = [];
    walk = record { legal = source; ends = sym s };
    less = rw (cost_there d u v l.ahead_is, cost_there e v w m.ahead_is)
        (by_parity d (λ h. by_parity e (λ k. rw (h, k) refl) (λ k. rw (h, k) refl))
        (λ h. by_parity e (λ k. rw (h, k) refl) (λ k. rw (h, k) refl)));
    smaller = shorter (omega arith);
  }

  -- one move
  straight_to : (f : Dir) → Leads g u w f
      → IsLess (add_costs (dir_cost f) no_cost) (pair_cost d e)
      → HasCheaper g u v w
  straight_to f n c = record {
    instead = w ∷ [];
    walk = record { legal = rw (n.legal, target) refl; ends = refl };
    less = rw (cost_there f u w n.ahead_is, cost_there d u v l.ahead_is, cost_there e v w m.ahead_is) c;
    smaller = shorter (omega arith);
  }

  -- a straight move between free cells
  along : (f : Dir) (x y : Cell) → is_diagonal f ≡ false → is_free g x ≡ true → is_free g y ≡ true
      → move f (place_of x) ≡ place_of y → Leads g x y f
  along f x y h a b s = leads_over g x y f a b s (λ k. absurd (cc))

  -- the diagonal beside d passes, where the cell ahead is open, and where no corner is cut the one aside
  passes_beside : (s : Side) → (may_cut g.corner ≡ false → is_open g u (quarter s d) ≡ true)
      → Passes g u (turn s d)
  passes_beside s h1 = grind (arith, passable, turn_back, open_ahead, passable-left)

  -- a diagonal move back to a side: the straight move aside; a component's reverse: the other component
  side_only : (f : Dir) → is_diagonal f ≡ false → move e (move d (place_of u)) ≡ move f (place_of u)
      → IsLess (add_costs (dir_cost f) no_cost) (pair_cost d e)
      → HasCheaper g u v w
  side_only f h s c = straight_to f (along f u w h source target (sym s ∙ there)) c

  -- what is free at a place that is open
  opened : (f : Dir) → is_open g u f ≡ true → (c : Cell) × (move f (place_of u) ≡ place_of c)
      × (is_free g c ≡ true)
  opened f a = cell_there g (move f (place_of u)) (sym (open_there g u f) ∙ a)

  -- a straight move and then a quarter: the diagonal between
  cut : (s : Side) → is_diagonal d ≡ false → is_diagonal e ≡ false
      → move e (move d (place_of u)) ≡ move (turn s d) (place_of u)
      → (may_cut g.corner ≡ false → is_open g u (quarter s d) ≡ true) → HasCheaper g u v w
  cut s h j p a =
      let k : is_diagonal (turn s d) ≡ true = turn_parity s d ∙ ap not h in
      straight_to (turn s d) (leads_over g u w (turn s d) source target (sym p ∙ there) (passes_beside s a))
      (rw (k, h, j) refl)

  -- a straight move and then an eighth: the diagonal goes first
  swapped : (s : Side) → is_diagonal d ≡ false
      → move e (move d (place_of u)) ≡ move d (move (turn s d) (place_of u))
      → is_open g u (turn s d) ≡ true
      → (may_cut g.corner ≡ false → is_open g u (quarter s d) ≡ true) → GoesFirst g u w d (turn s d)
  swapped s h p o a =
      let c = opened (turn s d) o in
      record {
        straight = h;
        diagonal = turn_parity s d ∙ ap not h;
        by = c.0;
        first = leads_over g u c.0 (turn s d) source c.2 c.1 (passes_beside s a);
        second = along d c.0 w h c.2 target (ap (λ (r : Place). move d r) (sym c.1) ∙ sym p ∙ there);
      }

  -- a diagonal move and then a quarter: the component twice
  halved : (s : Side) → is_diagonal d ≡ true → is_diagonal e ≡ true
      → move e (move d (place_of u)) ≡ move (turn s d) (move (turn s d) (place_of u))
      → is_open g u (turn s d) ≡ true → HasCheaper g u v w
  halved s h j p o =
      let k : is_diagonal (turn s d) ≡ false = turn_parity s d ∙ ap not h in
      let c = opened (turn s d) o in
      let n = along (turn s d) u c.0 k source c.2 c.1 in
      let q = along (turn s d) c.0 w k c.2 target (ap (λ (r : Place). move (turn s d) r) (sym c.1) ∙ sym p
      ∙ there) in
      let o = cost_there (turn s d) u c.0 n.ahead_is in
      let t = cost_there (turn s d) c.0 w q.ahead_is in
      let r = cost_there d u v l.ahead_is in
      let z = cost_there e v w m.ahead_is in
      record {
        instead = c.0 ∷ w ∷ [];
        walk = record { legal = rw (n.legal, q.legal, target) refl; ends = refl };
        less = rw (o, t, r, z, k, h, j) refl;
        smaller = straighter refl (rw (o, t, r, z, k, h, j) (omega arith));
      }

  -- what goes first is better
  first_better : GoesFirst g u w d e → HasBetter g u w (v ∷ w ∷ [])
  first_better f =
      let p = cost_there e u f.by f.first.ahead_is in
      let q = cost_there d f.by w f.second.ahead_is in
      let r = cost_there d u v l.ahead_is in
      let z = cost_there e v w m.ahead_is in
      record {
        instead = f.by ∷ w ∷ [];
        walk = record { legal = rw (f.first.legal, f.second.legal, target) refl; ends = refl };
        no_more = rw (p, q, r, z, f.straight, f.diagonal) refl;
        smaller = earlier refl (rw (p, q, r, z, f.straight, f.diagonal) refl)
            (rw (p, q, r, z, f.straight, f.diagonal) (omega arith));
      }

-- what walls would keep
shut : (a b : Bool) → a ≡ true → (a && b) ≡ false → b ≡ false
shut a b h k = rw h at k

module _ (r : Corner) (b : Dir → Bool) (d : Dir) (s : Side) where
  component_kept : is_diagonal d ≡ true → keeps_eighth r b d s ≡ true
  component_kept h = rw h refl

  eighth_walls : keeps_eighth r b d s ≡ false
      → (may_cut r ≡ false → b (rear s d) ≡ false) × (may_cut r ≡ true → b (quarter s d) ≡ false)
  eighth_walls h =
      (λ e. (or_parts (is_diagonal d) _ (rw e at h)).1, λ e. (or_parts (is_diagonal d) _ (rw e at h)).1)

  quarter_walls : keeps_quarter r b d s ≡ false
      → (is_diagonal d ≡ false → may_cut r ≡ false → b (rear s d) ≡ false)
      × (is_diagonal d ≡ true → may_cut r ≡ true → b (rear s d) ≡ false)
  quarter_walls h = grind (arith, shut)

-- both cells beside a legal diagonal move are open where no corner is cut
pub sides_open : (g : GridData) (u v : Cell) (d : Dir) → Leads g u v d → is_diagonal d ≡ true
    → may_cut g.corner ≡ false → (s : Side) → is_open g u (turn s d) ≡ true
sides_open g u v d l h e s = side s
  where
    both : (a b : Bool) → is_passable g.corner a b ≡ true → (a ≡ true) × (b ≡ true)
    both a b h = grind (arith, passable-uncut)

    side : (s : Side) → is_open g u (turn s d) ≡ true
    side Left = (both (is_open g u (turn Left d)) (is_open g u (turn Right d)) (leads_passes g u v d l h)).0
    side Right = (both (is_open g u (turn Left d)) (is_open g u (turn Right d)) (leads_passes g u v d l h)).1

module _ (g : GridData) (u v w : Cell) (d : Dir) (l : Leads g u v d) where
  -- a cell beside v that is not blocked, as seen from u
  seen : (e : Dir) → Leads g v w e → (f h : Dir) → move f (move d (place_of u)) ≡ move h (place_of u)
      → is_blocked g v f ≡ false → is_open g u h ≡ true
  seen e m f h p b = grind (arith, open_from)

  -- a cheaper walk, or a diagonal that goes first
  abbrev Replaces : Dir → Type 0
  Replaces e = HasCheaper g u v w ⊎ GoesFirst g u w d e

  by_turn : (e : Dir) → Turned d e → Leads g v w e → is_kept g.corner (is_blocked g v) (By d) e ≡ false
      → Replaces e
  by_turn _ ahead m k = absurd (let kept = kept-on g.corner (is_blocked g v) d in cc)
  by_turn _ (eighth s) m k =
      let not_kept : keeps_eighth g.corner (is_blocked g v) d s ≡ false =
      sym (kept-eighth g.corner (is_blocked g v) s d) ∙ k in
      let walls = eighth_walls g.corner (is_blocked g v) d s not_kept in
      by_parity d
      (λ h. absurd (let kept = component_kept g.corner (is_blocked g v) d s h in cc))
      (λ h.
      let j : is_diagonal (turn s d) ≡ true = turn_parity s d ∙ ap not h in
      let aside = straight_side s d (place_of u) h in
      inr (swapped g u v w d (turn s d) l m s h (moved_both d (turn s d) (place_of u))
      (by_cut g.corner
      (λ e. sym (open_from g u v w d (turn s d) l m (quarter s d) (turn s d) aside)
      ∙ sides_open g v w (turn s d) m j e s)
      (λ e. seen (turn s d) m (quarter s d) (turn s d) aside (walls.1 e)))
      (λ e. seen (turn s d) m (rear s d) (quarter s d) (straight_back s d (place_of u) h) (walls.0 e))))
  by_turn _ (side s) m k =
      let not_kept : keeps_quarter g.corner (is_blocked g v) d s ≡ false =
      sym (kept-quarter g.corner (is_blocked g v) s d) ∙ k in
      let walls = quarter_walls g.corner (is_blocked g v) d s not_kept in
      inl (by_parity d
      (λ h. halved g u v w d (quarter s d) l m s h (quarter_parity s d ∙ h) (diagonal_side s d (place_of u) h)
      (by_cut g.corner (λ e. sides_open g u v d l h e s)
      (λ e. seen (quarter s d) m (rear s d) (turn s d) (diagonal_back s d (place_of u) h) (walls.1 h e))))
      (λ h. cut g u v w d (quarter s d) l m s h (quarter_parity s d ∙ h) (straight_side s d (place_of u) h)
      (λ e. seen (quarter s d) m (rear s d) (quarter s d) (straight_back s d (place_of u) h)
      (walls.0 h e))))
  by_turn _ (back s) m k = inl (by_parity d
      (λ h.
      let f : is_diagonal (turn s d) ≡ false = turn_parity s d ∙ ap not h in
      let j : is_diagonal (rear s d) ≡ false = grind (arith, turn_parity, quarter_parity) in
      side_only g u v w d (rear s d) l m (turn s d) f (diagonal_back s d (place_of u) h)
      (rw (f, h, j) refl))
      (λ h.
      let f : is_diagonal (quarter s d) ≡ false = quarter_parity s d ∙ h in
      let j : is_diagonal (rear s d) ≡ true = turn_parity s (quarter s d) ∙ ap not f in
      side_only g u v w d (rear s d) l m (quarter s d) f (straight_back s d (place_of u) h)
      (rw (f, h, j) refl)))
  by_turn _ about m k = inl (undone g u v w d (opposite d) l m
      (one_cell w u (sym (there g u v w d (opposite d) l m) ∙ reversal d (place_of u))))

  -- what a turn that is not allowed is replaced by
  pub replaced : (e : Dir) → Leads g v w e → is_allowed g v (By d) e ≡ false → Replaces e
  replaced e m n = by_turn e (turned d e) m
      (and_false (is_kept g.corner (is_blocked g v) (By d) e) _ (leads_can g v w e m) n)
    where
      and_false : (a b : Bool) → b ≡ true → (a && b) ≡ false → a ≡ false
      and_false a b h1 h2 = grind arith

pub turns_are_replaced : TurnsAreReplaced
turns_are_replaced g u v w d e p q n =
    let l = legal_leads g u v d p in
    let m = legal_leads g v w e q in
    elim (replaced g u v w d l e m n) [
      | inl c ↦ record {
        instead = c.instead;
        walk = c.walk;
        no_more = less_at_most (cost_of (u ∷ c.instead)) (cost_of (u ∷ v ∷ w ∷ [])) c.less;
        smaller = c.smaller;
      }
      | inr f ↦ first_better g u v w d e l m f
    ]
