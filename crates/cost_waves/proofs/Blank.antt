-- Entries that tell nothing.
use Rattle.std.proofs.Common.{◌≡◌, ℕ, ap, ◌∙◌, List, get_or}
use Rattle.grid_moves.specs.Grid.{cell_number}
use Rattle.grid_moves.specs.Move.{dir_number}
use Rattle.grid_moves.proofs.Bits.{set_none}
use Rattle.cost_waves.specs.Rank.{far, cost_known, far_tells_nothing}
use Rattle.cost_waves.specs.Stored.{has_dir, IsBlank}

pub blank : (width height : ℕ) (ranks firsts : List ℕ) → ((k : ℕ) → get_or ranks k far ≡ far)
    → ((k : ℕ) → get_or firsts k 0 ≡ 0)
    → IsBlank (record { width = width; height = height; ranks = ranks; firsts = firsts })
blank width height ranks firsts all_far none = record {
  costs = λ t. ap (λ (n : ℕ). cost_known n) (all_far (cell_number width t)) ∙ far_tells_nothing;
  firsts = λ t d. ap (λ (n : ℕ). has_dir n d) (none (cell_number width t)) ∙ set_none (dir_number d);
}
