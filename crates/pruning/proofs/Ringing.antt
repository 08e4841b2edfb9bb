-- What is allowed, and where a neighbour is forced, by the cells around.
use Rattle.std.proofs.lemmas.Bool.Decides.{nat_tests}
use Rattle.std.proofs.lemmas.Grind.{common_steps}
use Rattle.std.proofs.Common.{arith, ◌≡◌, Bool, true, not, ◌||◌, refl, ap, ◌∙◌, List, [], ◌∷◌}
use Rattle.std.specs.Prelude.{filter}
use Rattle.grid_moves.specs.declared.Cell.{Cell}
use Rattle.grid_moves.specs.declared.Corner.{Corner}
use Rattle.grid_moves.specs.declared.Dir.{Dir}
use Rattle.grid_moves.specs.declared.ring.Ring.{Ring}
use Rattle.grid_moves.specs.Grid.{GridData, is_free}
use Rattle.grid_moves.specs.Move.{is_open, all_dirs}
use Rattle.grid_moves.specs.Ring.{is_free_on, is_shut, leads_on}
use Rattle.grid_moves.proofs.Besides.{leads_on-legal}
use Rattle.pruning.specs.declared.Arrival.{Arrival}
use Rattle.pruning.specs.declared.turns.Side.{Side}
use Rattle.pruning.specs.declared.turns.Side.TheVariants.{Right, Left}
use Rattle.pruning.specs.Turns.{turn, quarter, rear}
use Rattle.pruning.specs.Allowed.{is_blocked, can_move, is_kept, is_allowed, allowed_dirs}
use Rattle.pruning.specs.Marked.{is_forced, is_forced_on}
use Rattle.pruning.specs.Ring.{is_allowed_on, forced_beside, forced_on}

-- two tests that agree keep the same elements
same_filter : (p q : Dir → Bool) → ((d : Dir) → p d ≡ q d) → (ds : List Dir) → filter p ds ≡ filter q ds
same_filter p q h [] = refl
same_filter p q h (d ∷ ds) = rw (h d, same_filter p q h ds) refl

-- what is kept hangs on the blocked cells alone
same_kept : (r : Corner) (p q : Dir → Bool) → ((d : Dir) → p d ≡ q d) → (by : Arrival) (e : Dir)
    → is_kept r p by e ≡ is_kept r q by e
same_kept r p q h1 by e = grind (arith, nat_tests, common_steps)

-- where a neighbour is forced hangs on them and on the legal moves
same_forced : (r : Corner) (a b p q : Dir → Bool) → ((e : Dir) → a e ≡ b e) → ((e : Dir) → p e ≡ q e)
    → (d : Dir) (s : Side) → is_forced_on r a p d s ≡ is_forced_on r b q d s
same_forced r a b p q h k d s = rw (h (rear s d), h (quarter s d), k (quarter s d), k (turn s d)) refl

module _ (g : GridData) (x : Cell) (free : is_free g x ≡ true) (ring : Ring)
    (read : (d : Dir) → is_free_on ring d ≡ is_open g x d) where
  blocked : (d : Dir) → is_shut ring d ≡ is_blocked g x d
  blocked d = ap not (read d)

  can : (d : Dir) → leads_on g.corner ring d ≡ can_move g x d
  can d = leads_on-legal g x free ring read g.corner refl d

  allowed_on : (by : Arrival) (e : Dir) → is_allowed_on g.corner ring by e ≡ is_allowed g x by e
  allowed_on by e = grind (arith, nat_tests, common_steps, same_kept, blocked, can)

  -- the allowed directions
  pub allowed_of_ring : (corner : Corner) → corner ≡ g.corner → (by : Arrival)
      → filter (is_allowed_on corner ring by) all_dirs ≡ allowed_dirs g x by
  allowed_of_ring corner h by =
      ap (λ (r : Corner). filter (is_allowed_on r ring by) all_dirs) h
      ∙ same_filter (is_allowed_on g.corner ring by) (is_allowed g x by) (λ e. allowed_on by e) all_dirs

  forced_aside : (d : Dir) (s : Side)
      → forced_beside g.corner ring d s ≡ is_forced_on g.corner (is_blocked g x) (can_move g x) d s
  forced_aside d s = grind (arith, nat_tests, common_steps, same_forced, blocked, can)

  -- and whether a neighbour is forced
  pub forced_of_ring : (corner : Corner) → corner ≡ g.corner → (d : Dir)
      → forced_on corner ring d ≡ is_forced g x d
  forced_of_ring corner h d =
      ap (λ (r : Corner). forced_on r ring d) h ∙ both _ _ _ _ (forced_aside d Right) (forced_aside d Left)
    where
      both : (a b p q : Bool) → a ≡ p → b ≡ q → (a || b) ≡ (p || q)
      both a b p q e f = rw (e, f) refl
