-- What lies beyond a cell: whether the move there is legal.
use Rattle.std.proofs.Common.{◌≡◌, Bool, true, false, ◌&&◌, ap, sym, ◌∙◌}
use Rattle.std.specs.Prelude.{Some, None}
use Rattle.grid_moves.specs.declared.Cell.{Cell}
use Rattle.grid_moves.specs.declared.Corner.{Corner}
use Rattle.grid_moves.specs.declared.Dir.{Dir}
use Rattle.grid_moves.specs.Grid.{GridData, is_free}
use Rattle.grid_moves.specs.Move.{beyond, is_open, is_passable, legal_ahead}
use Rattle.grid_moves.proofs.Besides.{legal_beyond}
use Rattle.pruning.specs.declared.turns.Side.TheVariants.{Right, Left}
use Rattle.pruning.specs.Turns.{turn, is_diagonal}
use Rattle.pruning.specs.Allowed.{can_move}
use Rattle.pruning.proofs.Moves.{can_move-diagonal}

-- where the move ahead is legal it leads beyond
pub beyond_legal : (g : GridData) (c v : Cell) (d : Dir) → v ≡ beyond d c → can_move g c d ≡ true
    → legal_ahead g c d ≡ Some v
beyond_legal g c v d e h = sym (legal_beyond g c d true (sym h)) ∙ ap (λ (w : Cell). Some w) (sym e)

pub beyond_stuck : (g : GridData) (c : Cell) (d : Dir) → can_move g c d ≡ false → legal_ahead g c d ≡ None
beyond_stuck g c d h = sym (legal_beyond g c d false (sym h))

-- a diagonal one is legal where the cell is free, and it passes
pub beyond_diagonal : (g : GridData) (c : Cell) (d : Dir) → is_free g c ≡ true → is_diagonal d ≡ true
    → (rule : Corner) → rule ≡ g.corner → (right left passes legal : Bool)
    → right ≡ is_open g c (turn Right d) → left ≡ is_open g c (turn Left d)
    → passes ≡ is_passable rule left right → legal ≡ (is_open g c d && passes) → can_move g c d ≡ legal
beyond_diagonal g c d k h rule r right left passes legal i j p l = can_move-diagonal g c d k h
    ∙ sym (l ∙ ap (λ (b : Bool). is_open g c d && b) (p ∙ ap (λ (q : Corner). is_passable q left right) r
    ∙ ap (λ (b : Bool). is_passable g.corner b right) j
    ∙ ap (λ (b : Bool). is_passable g.corner (is_open g c (turn Left d)) b) i))
