-- The next cell of a diagonal run, and whether a jump stops there.
use Rattle.std.proofs.lemmas.Bool.Decides.{nat_tests}
use Rattle.std.proofs.lemmas.Grind.{common_steps}
use Rattle.std.proofs.Common.{◌≡◌, arith, Bool, true, sym, ◌∙◌, ◌||◌}
use Rattle.std.specs.Prelude.{Some, is_some}
use Rattle.grid_moves.specs.declared.Cell.{Cell}
use Rattle.grid_moves.specs.declared.Dir.{Dir}
use Rattle.grid_moves.specs.Grid.{GridData}
use Rattle.grid_moves.specs.Move.{beyond, is_same, legal_ahead}
use Rattle.pruning.specs.Allowed.{can_move}
use Rattle.pruning.specs.declared.turns.Side.TheVariants.{Right, Left}
use Rattle.pruning.specs.First.{first_stop, is_stop}
use Rattle.pruning.specs.Marked.{is_forced}
use Rattle.pruning.specs.Turns.{is_diagonal, turn}
use Rattle.jump_plain.proofs.Besides.{beyond_legal}
use Rattle.jump_plain.proofs.Diagonal.{is_stop-read}
use Rattle.jump_block.specs.declared.straight.Axis.TheVariants.{Row, Column}
use Rattle.jump_block.specs.Source.{part_on, stops_at}

pub legal_next : (g : GridData) (u v : Cell) (d : Dir) (leads : Bool) → leads ≡ can_move g u d → leads ≡ true
    → v ≡ beyond d u → legal_ahead g u d ≡ Some v
legal_next g u v d leads known on e = beyond_legal g u v d e (sym known ∙ on)

swap : (x a b : Bool) → (x || a || b) ≡ (x || b || a)
swap x a b = grind arith

-- the straight parts of a diagonal lead a turn to the right and a turn to the left
parts : (P : Dir → Bool) (d : Dir) → is_diagonal d ≡ true → (x : Bool)
    → (x || P (part_on Row d) || P (part_on Column d)) ≡ (x || P (turn Right d) || P (turn Left d))
parts P d h1 x = grind (arith, nat_tests, common_steps, swap)

pub stop_read : (g : GridData) (goal : Cell) (d : Dir) (v : Cell) → is_diagonal d ≡ true → (read b : Bool)
    → read ≡ stops_at g goal d v → read ≡ b → is_stop g goal d v ≡ b
stop_read g goal d v h read b e f = is_stop-read g goal d v h read b
    (e ∙ parts (λ (p : Dir). is_some (first_stop g goal v p)) d h (is_same v goal || is_forced g v d)) f
