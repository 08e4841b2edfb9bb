-- Ways over cells with labels, from one beside a blocked cell to the others. No public clause cites this
-- module.
use Rattle.std.specs.Prelude.{◌≡◌, Bool, true, not, ◌&&◌, ◌||◌, nat_eq}
use Rattle.grid_moves.specs.declared.Cell.{Cell}
use Rattle.grid_moves.specs.declared.ring.Ring.{Ring}
use Rattle.joined_cells.specs.Joined.{Labels, label_of}
use Rattle.components.specs.Links.{Chain, IsLink}

-- the cell has a label
abbrev pub is_labelled : Labels → Cell → Bool
is_labelled p c = not (nat_eq (label_of p c) 0)

-- the cells that c is linked with are joined among themselves
abbrev pub AreJoined : Bool → (Cell → Bool) → Cell → Type 0
AreJoined eight free c = (u v : Cell) → free u ≡ true → free v ≡ true → IsLink eight c u → IsLink eight c v
    → Chain eight free v u

-- this was met, where it is to be met
abbrev pub is_covered : Bool → Bool → Bool
is_covered wanted met = not wanted || met

abbrev pub are_straight_met : Ring → Ring → Bool
are_straight_met ring met = (is_covered ring.n met.n && is_covered ring.e met.e)
    && (is_covered ring.s met.s && is_covered ring.w met.w)

-- one on a diagonal that stands beside a free cell above or below the middle is linked with that one
abbrev pub are_diagonal_met : Ring → Ring → Bool
are_diagonal_met ring met =
    (is_covered ring.ne (met.ne || ring.n) && is_covered ring.se (met.se || ring.s))
    && (is_covered ring.sw (met.sw || ring.s) && is_covered ring.nw (met.nw || ring.n))

-- all free cells around that the middle is linked with were met, or are linked with one that was
abbrev pub are_met : Bool → Ring → Ring → Bool
are_met eight ring met = are_straight_met ring met && is_covered eight (are_diagonal_met ring met)
