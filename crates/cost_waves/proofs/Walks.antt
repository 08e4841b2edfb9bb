-- Walks with one more move, and what a move counts.
use Rattle.std.proofs.Common.{◌≡◌, ℕ, ◌+◌, ◌≤◌, arith, refl, ap, ◌∙◌, true, List, [], ◌∷◌, ◌++◌}
use Rattle.std.specs.Prelude.{Some}
use Rattle.root2_cost.specs.Rank.{rank_of, straight_rank, diagonal_rank}
use Rattle.root2_cost.proofs.Sums.{add_costs-no_cost_right}
use Rattle.root2_cost.proofs.Differences.{rank-add_costs}
use Rattle.grid_moves.specs.declared.Cell.{Cell}
use Rattle.grid_moves.specs.declared.Dir.{Dir}
use Rattle.grid_moves.specs.Grid.{GridData, is_free}
use Rattle.grid_moves.specs.Move.{move_cost, legal_ahead}
use Rattle.grid_moves.specs.Walk.{cost_of, IsWalk}
use Rattle.grid_moves.proofs.Legal.{legal_is}
use Rattle.grid_moves.proofs.Ahead.{legal_ahead-is, legal_ahead-ahead}
use Rattle.grid_moves.proofs.Walks.{one_more}
use Rattle.grid_moves.proofs.Costs.{cost_there}
use Rattle.cost_waves.specs.Front.{dir_rank}
use Rattle.cost_waves.specs.Wave.{Way, WayBy}

-- a move in a direction counts what its cost does
pub rank-move : (g : GridData) (u v : Cell) (d : Dir) → legal_ahead g u d ≡ Some v
    → rank_of (move_cost u v) ≡ dir_rank d
rank-move g u v d e = ap rank_of (cost_there d u v (legal_ahead-ahead g u v d e))

-- a straight move or a diagonal one
pub rank_low : (d : Dir) → straight_rank ≤ dir_rank d
rank_low d = grind arith

pub rank_high : (d : Dir) → dir_rank d ≤ diagonal_rank
rank_high d = grind arith

module _ (g : GridData) (s u v : Cell) (d : Dir) (e : legal_ahead g u d ≡ Some v) (r : ℕ) where
  -- a walk to u and the move
  longer : (cells : List Cell) → IsWalk g s u cells → rank_of (cost_of (s ∷ cells)) ≡ r
      → IsWalk g s v (cells ++ (v ∷ [])) × (rank_of (cost_of (s ∷ (cells ++ (v ∷ [])))) ≡ r + dir_rank d)
  longer cells w k =
      let m = one_more g s u v cells (cost_of (s ∷ cells))
      (record { legal = w.legal; ends = w.ends; priced = refl }) (legal_ahead-is g u v d e) in (
        record { legal = m.legal; ends = m.ends },
        ap rank_of m.priced ∙ rank-add_costs (cost_of (s ∷ cells)) (move_cost u v)
            ∙ rw (k, rank-move g u v d e) refl,
      )

  pub way_more : Way g s u r → Way g s v (r + dir_rank d)
  way_more w =
      let m = longer w.cells w.walk w.ranked in
      record { cells = w.cells ++ (v ∷ []); walk = m.0; ranked = m.1 }

  pub way_by_more : (b : Dir) → WayBy g s u b r → WayBy g s v b (r + dir_rank d)
  way_by_more b w =
      let m = longer (w.next ∷ w.cells) w.walk w.ranked in
      record { next = w.next; ahead = w.ahead; cells = w.cells ++ (v ∷ []); walk = m.0; ranked = m.1 }

-- no move, and one
pub way_nowhere : (g : GridData) (s : Cell) → is_free g s ≡ true → Way g s s 0
way_nowhere g s f = record { cells = []; walk = record { legal = f; ends = refl }; ranked = refl }

pub way_by_one : (g : GridData) (s v : Cell) (d : Dir) → legal_ahead g s d ≡ Some v
    → WayBy g s v d (dir_rank d)
way_by_one g s v d e =
    let l = legal_ahead-is g s v d e in
    record {
      next = v;
      ahead = e;
      cells = [];
      walk = record { legal = rw l (legal_is g s v l).target; ends = refl };
      ranked = ap rank_of (add_costs-no_cost_right (move_cost s v)) ∙ rank-move g s v d e;
    }
