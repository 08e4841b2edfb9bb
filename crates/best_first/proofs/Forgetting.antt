-- Heads that are set back to 0, number by number.
use Rattle.std.proofs.Common.{◌≡◌, ℕ, suc, ◌+◌, ◌≤◌, inl, inr, length, List, refl, sym, ◌∙◌, ap, arith}
use Rattle.std.specs.Prelude.{Some, slice_get, slice_set}
use Rattle.std.proofs.lemmas.Option.{slice_get_within}
use Rattle.grid_moves.specs.Grid.{cell_number}
use Rattle.best_first.specs.declared.index.Record.{Record}
use Rattle.best_first.specs.declared.node.Node.{Node}
use Rattle.best_first.specs.declared.state.Layout.TheVariants.{ByCell}
use Rattle.best_first.specs.Index.{cell_of_node, AreLed, AreBlank, IsExact}
use Rattle.best_first.specs.State.{state_of_place}
use Rattle.best_first.proofs.Lists.{got-set}
use Rattle.best_first.proofs.Records.{head-is}

module _ (cell_of : ℕ → ℕ) (count : ℕ) where
  -- one number more
  pub led_next : (first cell : ℕ) (heads : List ℕ) → AreLed cell_of first count heads → cell_of first ≡ cell
      → AreLed cell_of (first + 1) count (slice_set heads cell 0)
  led_next first cell heads a e c r h = elim (got-set heads c cell (suc r) 0 h) [
    | inl was ↦ (let l = a c r was.1 in
        (ahead r l.0 (λ q. was.0 (sym l.2 ∙ ap cell_of q ∙ e)), l.1, l.2))
    | inr here ↦ absurd (let z = here.1 in omega arith)
  ]
    where
      ahead : (r : ℕ) → first ≤ r → (r ≡ first → ⊥) → first + 1 ≤ r
      ahead r h n = omega arith

  -- after all numbers no head is left
  pub led_none : (first : ℕ) (heads : List ℕ) → AreLed cell_of first count heads → count ≤ first
      → AreBlank heads
  led_none first heads a n c r h = let l = a c r h in omega (arith, l.0, l.1)

-- the number of a node's cell
pub node-cell : (width : ℕ) (nodes : List Node) (id : ℕ) (n : Node) → slice_get nodes id ≡ Some n
    → cell_of_node width nodes id ≡ cell_number width (state_of_place n.place).cell
node-cell width nodes id n e = rw e refl

-- where a cell has one state, a head leads to its node
pub led_by_nodes : (width : ℕ) (nodes : List Node) (heads : List ℕ) (records : List Record)
    → IsExact ByCell width nodes heads records
    → AreLed (cell_of_node width nodes) 0 (length nodes) heads
led_by_nodes width nodes heads records x c r h =
    let at = x.nowhere_else c 8 r (head-is heads c (suc r) h) in
    (omega arith, slice_get_within nodes r at.node at.node_is, rw at.node_is at.cell_is)
