-- When a move from a free cell is legal: by the cells ahead and beside.
use Rattle.std.proofs.lemmas.Bool.Decides.{nat_tests}
use Rattle.std.proofs.lemmas.Grind.{common_steps}
use Rattle.std.proofs.Common.{arith, ◌≡◌, refl, sym, ◌∙◌, true, false, ◌&&◌}
use Rattle.grid_moves.specs.declared.Cell.{Cell}
use Rattle.grid_moves.specs.declared.Corner.{Corner}
use Rattle.grid_moves.specs.declared.Dir.{Dir}
use Rattle.grid_moves.specs.declared.ring.Ring.{Ring}
use Rattle.grid_moves.specs.Grid.{GridData, is_free}
use Rattle.grid_moves.specs.Move.{is_passable, is_open}
use Rattle.grid_moves.specs.Ring.{ring_by, is_free_on, leads_on}
use Rattle.grid_moves.proofs.Besides.{leads_on-open, passable-turned, free_on_ring_by}
use Rattle.pruning.specs.declared.turns.Side.TheVariants.{Right, Left}
use Rattle.pruning.specs.Turns.{turn, is_diagonal}
use Rattle.pruning.specs.Allowed.{can_move}

-- on a ring, what lies ahead decides a straight move
pub leads_on-straight : (r : Corner) (ring : Ring) (d : Dir) → is_diagonal d ≡ false
    → leads_on r ring d ≡ is_free_on ring d
leads_on-straight r ring d h1 = grind (arith, nat_tests, common_steps)

-- and what lies ahead and beside a diagonal one
pub leads_on-diagonal : (r : Corner) (ring : Ring) (d : Dir) → is_diagonal d ≡ true → leads_on r ring d
    ≡ (is_free_on ring d && is_passable r (is_free_on ring (turn Left d)) (is_free_on ring (turn Right d)))
leads_on-diagonal r ring d h1 = grind (arith, nat_tests, common_steps, passable-turned)

-- so it is on a grid
pub can_move-straight : (g : GridData) (c : Cell) (d : Dir) → is_free g c ≡ true → is_diagonal d ≡ false
    → can_move g c d ≡ is_open g c d
can_move-straight g c d f h = sym (leads_on-open g c f d)
    ∙ leads_on-straight g.corner (ring_by (λ e. is_open g c e)) d h ∙ free_on_ring_by (λ e. is_open g c e) d

pub can_move-diagonal : (g : GridData) (c : Cell) (d : Dir) → is_free g c ≡ true → is_diagonal d ≡ true
    → can_move g c d ≡
    (is_open g c d && is_passable g.corner (is_open g c (turn Left d)) (is_open g c (turn Right d)))
can_move-diagonal g c d f h = sym (leads_on-open g c f d)
    ∙ leads_on-diagonal g.corner (ring_by (λ e. is_open g c e)) d h
    ∙ rw (
      free_on_ring_by (λ e. is_open g c e) d,
      free_on_ring_by (λ e. is_open g c e) (turn Left d),
      free_on_ring_by (λ e. is_open g c e) (turn Right d),
    ) refl
