-- A first move is one.
use Rattle.std.proofs.Common.{◌≡◌, ◌+◌, inl, inr, arith, refl, ap, sym, ◌∙◌, List, ◌∷◌, length}
use Rattle.std.specs.Prelude.{Option, Some, None}
use Rattle.root2_cost.specs.declared.Cost.{Cost}
use Rattle.root2_cost.proofs.AtMost.{IsAtMost-antisymmetric}
use Rattle.grid_moves.specs.declared.Cell.{Cell}
use Rattle.grid_moves.specs.declared.Dir.{Dir}
use Rattle.grid_moves.specs.Grid.{GridData}
use Rattle.grid_moves.specs.Walk.{IsLeastWalk, cost_of}
use Rattle.grid_moves.proofs.Dirs.{one_dir}
use Rattle.grid_moves.proofs.Short.{walk_free}
use Rattle.grid_moves.proofs.Walks.{steps-cost_of}
use Rattle.cost_waves.specs.Begin.{Begins}
use Rattle.first_moves.specs.First.{IsFirstMove}
use Rattle.first_moves.proofs.Following.{no_move}

-- two least walks have as many moves
pub same_moves : (g : GridData) (s t : Cell) (cells others : List Cell) → IsLeastWalk g s t cells
    → IsLeastWalk g s t others → length cells ≡ length others
same_moves g s t cells others l m =
    let same : cost_of (s ∷ cells) ≡ cost_of (s ∷ others) =
    IsAtMost-antisymmetric (cost_of (s ∷ cells)) (cost_of (s ∷ others)) (l.least others m.walk)
    (m.least cells l.walk) in
    sym (steps-cost_of s cells) ∙ ap (λ (c : Cost). c.a + c.b) same ∙ steps-cost_of s others

-- where no move is needed none begins a least walk, and where no walk leads there none does
pub none_begins : (g : GridData) (s t : Cell) (d : Dir) → IsFirstMove g s t None → Begins g s t d → ⊥
none_begins g s t d (inl e) b =
    let stay = no_move g s t (walk_free g s (b.next ∷ b.cells) b.least.walk.legal) e in
    let none = ap (λ (c : Cost). c.a + c.b) stay.priced in
    let moves = steps-cost_of s stay.cells in
    let as_many = same_moves g s t stay.cells (b.next ∷ b.cells) stay.least b.least in
    omega (arith, none, moves, as_many)
none_begins g s t d (inr none) b = none (b.next ∷ b.cells) b.least.walk

-- a first move is one
pub one_move : (g : GridData) (s t : Cell) (d e : Dir) → IsFirstMove g s t (Some d)
    → IsFirstMove g s t (Some e) → d ≡ e
one_move g s t d e p q = let low = p.1 e q.0 in let high = q.1 d p.0 in one_dir d e (omega (arith, low, high))

-- and so is that there is none
pub one_first : (g : GridData) (s t : Cell) (a b : Option Dir) → IsFirstMove g s t a → IsFirstMove g s t b
    → a ≡ b
one_first g s t None None p q = refl
one_first g s t None (Some e) p q = absurd (none_begins g s t e p q.0)
one_first g s t (Some d) None p q = absurd (none_begins g s t d q p.0)
one_first g s t (Some d) (Some e) p q = ap (λ (x : Dir). Some x) (one_move g s t d e p q)
